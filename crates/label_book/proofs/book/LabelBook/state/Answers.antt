use Rattle.std.proofs.Common.{sym, ◌∙◌, ap}
use Rattle.std.specs.Option.{option_map}
use Rattle.label_book.specs.declared.book.Held.{Held}
use Rattle.label_book.specs.Labels.{last_of, state_of}
use Rattle.label_book.proofs.Entries.{bindings_of}
use Rattle.label_book.proofs.Indexed.{last_listed, none_found, state_found, told}
use Rattle.label_book.proofs.book.LabelBook.state.Goals as goal

pub returns-in_err-txn : goal.returns-in_err-txn
returns-in_err-txn c =
    let es = c.self.inside.by_txn.entries in
    let last = last_listed es c.self.inside.by_label c.args.db.now c.args.label.now c.self.invariant in
    c.from_residual.ensures
    ∙ none_found (last_of c.args.db.now c.args.label.now (bindings_of es)) (sym c.in_err-txn.was ∙ c.last_number.ensures ∙ last)
    ∙ ap (state_of c.args.db.now c.args.label.now) c.self.view_is

pub returns-in_err-held : goal.returns-in_err-held
returns-in_err-held c =
    let es = c.self.inside.by_txn.entries in
    let last = last_listed es c.self.inside.by_label c.args.db.now c.args.label.now c.self.invariant in
    c.from_residual-in_err-held.ensures
    ∙ ap (option_map (λ (g : Held). told c.in_ok-txn.txn g.state)) c.in_err-held.ensures.value
    ∙ sym (state_found es c.args.db.now c.args.label.now c.in_ok-txn.txn c.self.invariant.ascending (sym last ∙ sym c.last_number.ensures ∙ c.in_ok-txn.was))
    ∙ ap (state_of c.args.db.now c.args.label.now) c.self.view_is

pub returns : goal.returns
returns c =
    let es = c.self.inside.by_txn.entries in
    let last = last_listed es c.self.inside.by_label c.args.db.now c.args.label.now c.self.invariant in
    ap (option_map (λ (g : Held). told c.in_ok-txn.txn g.state)) c.in_ok-held.ensures.value
    ∙ sym (state_found es c.args.db.now c.args.label.now c.in_ok-txn.txn c.self.invariant.ascending (sym last ∙ sym c.last_number.ensures ∙ c.in_ok-txn.was))
    ∙ ap (state_of c.args.db.now c.args.label.now) c.self.view_is

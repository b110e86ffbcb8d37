-- What a reply makes of a script, by the kind of the reply.
use Rattle.std.proofs.Common.{◌≡◌, ◌∙◌, ◌+◌, ◌<◌, ◌≤◌, true, false, nat_le, ℕ, suc, List, [], Option, Result, Ok, Err, IfOk, MatchResult, inl, inr, refl, ap, arith}
use Rattle.std.proofs.lemmas.Bool.Decides.{nat_tests}
use Rattle.front_defs.specs.declared.command.Command.TheVariants as command
use Rattle.front_defs.specs.declared.reply.Reply.{Reply}
use Rattle.front_defs.specs.declared.reply.Reply.TheVariants as reply
use Rattle.front_defs.specs.Script.{Script, Asks, Served}
use Rattle.load_server.specs.Responses.{Response, out_of_memory}
use Rattle.dl_values.specs.declared.cell.Cell.{Cell}
use Rattle.front_defs.specs.declared.reply.Placed.{Placed}
use Rattle.labels.specs.declared.txn_state.TxnState.{TxnState}
use Rattle.reply_texts.specs.Texts.{refusal_text}
use Rattle.shadow_writes.specs.declared.built.Built.{Built}
use Rattle.shadow_writes.specs.declared.plan.Plan.{Plan}
use Rattle.load_server.specs.Reports.{failed, refused_load}
use Rattle.load_server.specs.Scripts.{after_abort, after_begin, after_commit, after_publish, after_submit, publishing, made, refused_by}
use Rattle.load_server.specs.declared.load.Load.{Load}

-- ---- publish turns

-- one publish of those that are left
pub publishing_next : (good late : Response) (at place more : ℕ) → publishing good late at place (more + 1) ≡ Asks (command.Publish at) (after_publish good late place (publishing good late at place more))
publishing_next good late at place more = let e : more + 1 ≡ suc more = omega arith in ap (publishing good late at place) e

pub publishing_done : (good late : Response) (at place more : ℕ) → more ≡ 0 → publishing good late at place more ≡ made good
publishing_done good late at place more none = ap (publishing good late at place) none

pub publish_reached : (good late : Response) (place : ℕ) (later : Script Response) (r : Reply) (txn reached : ℕ) → r ≡ reply.Published txn reached → place ≤ reached → after_publish good late place later r ≡ made good
publish_reached good late place later r txn reached is le = rw is (let e : nat_le place reached ≡ true = grind (arith, nat_tests) in rw e refl)

pub publish_below : (good late : Response) (place : ℕ) (later : Script Response) (r : Reply) (txn reached : ℕ) → r ≡ reply.Published txn reached → reached < place → after_publish good late place later r ≡ later
publish_below good late place later r txn reached is lt = rw is (let e : nat_le place reached ≡ false = grind (arith, nat_tests) in rw e refl)

pub publish_other : (good late : Response) (place : ℕ) (later : Script Response) (r : Reply) → ((x y : ℕ) → r ≡ reply.Published x y → ⊥) → (r ≡ reply.NothingToPublish → ⊥) → (r ≡ reply.NoMemory → ⊥) → after_publish good late place later r ≡ made late
publish_other good late place later (reply.Published x y) h k m = absurd (h x y refl)
publish_other good late place later reply.NothingToPublish h k m = absurd (k refl)
publish_other good late place later reply.NoMemory h k m = absurd (m refl)
publish_other good late place later _ h k m = refl

-- ---- other replies

pub abort_other : (response : Response) (r : Reply) → (r ≡ reply.KeeperFault → ⊥) → (r ≡ reply.NoMemory → ⊥) → after_abort response r ≡ made response
abort_other response reply.KeeperFault h k = absurd (h refl)
abort_other response reply.NoMemory h k = absurd (k refl)
abort_other response _ h k = refl

pub submit_other : (load : Load) (txn filtered total : ℕ) (r : Reply) → ((x : Option Placed) → r ≡ reply.Submitted x → ⊥) → ((x : ℕ) → r ≡ reply.Expired x → ⊥) → (r ≡ reply.NoMemory → ⊥) → (r ≡ reply.KeeperFault → ⊥) → after_submit load txn filtered total r ≡ made (failed load.sent txn (refusal_text r) filtered total)
submit_other load txn filtered total (reply.Submitted x) h k m n = absurd (h x refl)
submit_other load txn filtered total (reply.Expired x) h k m n = absurd (k x refl)
submit_other load txn filtered total reply.NoMemory h k m n = absurd (m refl)
submit_other load txn filtered total reply.KeeperFault h k m n = absurd (n refl)
submit_other load txn filtered total _ h k m n = refl

pub begin_other : (building : Plan → List (List Cell) → Built) (load : Load) (body : List ℕ) (r : Reply) → ((x : ℕ) (y : Plan) → r ≡ reply.Begun x y → ⊥) → ((x : ℕ) (y : TxnState) → r ≡ reply.Used x y → ⊥) → (r ≡ reply.KeeperFault → ⊥) → (r ≡ reply.NoMemory → ⊥) → after_begin building load body r ≡ made (refused_load load.sent.label (refusal_text r))
begin_other building load body (reply.Begun x y) h k m n = absurd (h x y refl)
begin_other building load body (reply.Used x y) h k m n = absurd (k x y refl)
begin_other building load body reply.KeeperFault h k m n = absurd (m refl)
begin_other building load body reply.NoMemory h k m n = absurd (n refl)
begin_other building load body _ h k m n = refl

pub commit_other : (at : ℕ) (r : Reply) → ((x y z : ℕ) → r ≡ reply.Committed x y z → ⊥) → after_commit at r ≡ refused_by r
commit_other at (reply.Committed x y z) h = absurd (h x y z refl)
commit_other at _ h = refl

-- ---- responses that take memory

pub served_made : {B E : Type 0} (r : Result B E) (items : B → List ℕ) (text : List ℕ) (a : Response) → MatchResult r (λ b. a ≡ record { status = 200; body = items b }) (λ _. a ≡ out_of_memory) → IfOk r (λ b. items b ≡ text) → Served (made (record { status = 200; body = text })) [] a
served_made (Ok b) items text a h k = inl (refl, h ∙ (λ i. record { status = 200; body = k i }))
served_made (Err e) items text a h k = inr (refl, h)

use Rattle.std.proofs.Common.{◌≡◌, ◌∙◌, refl, sym, ap, subst, inl, List, ℕ, ◌∷◌}
use Rattle.front_defs.specs.declared.command.Command.{Command}
use Rattle.front_defs.specs.declared.history.Entry.{Entry}
use Rattle.front_defs.specs.declared.history.Entry.TheVariants.{Made}
use Rattle.front_defs.specs.declared.reply.Reply.{Reply}
use Rattle.front_defs.specs.May.{Carries}
use Rattle.load_server.specs.Scripts.{after_begin}
use Rattle.load_server.proofs.Going.{Turn, answered_now, by_any, by_as, by_asks}
use Rattle.load_server.proofs.Answering.{begin_other}
use Rattle.load_server.proofs.loading.begin.Goals as goal

-- the turn, by what its command is
turn_of : {n m : ℕ} (old new : List Entry → List Entry → Type 0) (made asked : Command) (r : Reply) → made ≡ asked → Turn old new n m made r → Turn old new n m asked r
turn_of {n} {m} old new made asked r e turn = subst (λ (x : Command). Turn old new n m x r) e turn

pub turn-requires : goal.turn-requires
turn-requires g c = λ b. absurd (rw c.begin_command-command.ensures at b)

pub proceed-requires : goal.proceed-requires
proceed-requires g c = λ next b h. c.turn.ensures.follows next b (rw c.in-Begun.is h)

pub returns-in-Begun : goal.returns-in-Begun
returns-in-Begun g c = λ seen own s.
    by_asks _ _ _ seen own _ (λ b. after_begin b c.args.load c.args.body.items) c.turn.result _
    (turn_of _ _ _ _ c.turn.result c.begin_command-command.ensures c.turn.ensures.turned) s tt
    (λ z call e st. by_as _ z (Made call ∷ own) _ _ _ (λ b. ap (after_begin b c.args.load c.args.body.items) c.in-Begun.is)
    (c.proceed.ensures z (Made call ∷ own) st (λ next h. inl (subst (λ (x : Reply). Carries next x) (sym (e ∙ c.in-Begun.is)) h))))

pub returns-in-Used : goal.returns-in-Used
returns-in-Used g c = λ seen own s.
    by_asks _ _ _ seen own _ (λ b. after_begin b c.args.load c.args.body.items) c.turn.result _
    (turn_of _ _ _ _ c.turn.result c.begin_command-command.ensures c.turn.ensures.turned) s tt
    (λ z call e st. by_as _ z (Made call ∷ own) _ _ _ (λ b. ap (after_begin b c.args.load c.args.body.items) c.in-Used.is)
    (by_any _ z (Made call ∷ own) _ _ (answered_now _ z (Made call ∷ own) _ _ st c.used_load.ensures)))

pub returns-in-KeeperFault : goal.returns-in-KeeperFault
returns-in-KeeperFault g c = λ seen own s.
    by_asks _ _ _ seen own _ (λ b. after_begin b c.args.load c.args.body.items) c.turn.result _
    (turn_of _ _ _ _ c.turn.result c.begin_command-command.ensures c.turn.ensures.turned) s tt
    (λ z call e st. by_as _ z (Made call ∷ own) _ _ _ (λ b. ap (after_begin b c.args.load c.args.body.items) c.in-KeeperFault.is)
    (by_any _ z (Made call ∷ own) _ _ (answered_now _ z (Made call ∷ own) _ _ st (refl, refl))))

pub returns-in-NoMemory : goal.returns-in-NoMemory
returns-in-NoMemory g c = λ seen own s.
    by_asks _ _ _ seen own _ (λ b. after_begin b c.args.load c.args.body.items) c.turn.result _
    (turn_of _ _ _ _ c.turn.result c.begin_command-command.ensures c.turn.ensures.turned) s tt
    (λ z call e st. by_as _ z (Made call ∷ own) _ _ _ (λ b. ap (after_begin b c.args.load c.args.body.items) c.in-NoMemory.is)
    (by_any _ z (Made call ∷ own) _ _ (answered_now _ z (Made call ∷ own) _ _ st (refl, refl))))

pub returns-in_default : goal.returns-in_default
returns-in_default g c = λ seen own s.
    by_asks _ _ _ seen own _ (λ b. after_begin b c.args.load c.args.body.items) c.turn.result _
    (turn_of _ _ _ _ c.turn.result c.begin_command-command.ensures c.turn.ensures.turned) s tt
    (λ z call e st. by_as _ z (Made call ∷ own) _ _ _ (λ b. begin_other b c.args.load c.args.body.items c.turn.result c.in_default.not-Begun c.in_default.not-Used c.in_default.not-KeeperFault c.in_default.not-NoMemory)
    (by_any _ z (Made call ∷ own) _ _ (answered_now _ z (Made call ∷ own) _ _ st c.refused_by.ensures)))

-- A step goes on from what a front stands for: its parts, its entry and the marks of it.
use Rattle.std.proofs.Common.{◌≡◌, ℕ, true, false, List, ◌∷◌, ◌++◌, Option, Some, None, IfSome, inl, refl, sym, ◌∙◌, ap, arith, subst}
use Rattle.front_defs.specs.declared.event.Event.{Event}
use Rattle.front_defs.specs.declared.command.Command.{Command}
use Rattle.front_defs.specs.declared.reply.Reply.{Reply}
use Rattle.front_defs.specs.declared.reply.Reply.TheVariants as reply
use Rattle.front_defs.specs.declared.history.Entry.{Entry}
use Rattle.front_defs.specs.declared.history.Entry.TheVariants.{Made}
use Rattle.front_defs.specs.Answer.{Answer}
use Rattle.front_defs.specs.History.{Outcome, Well, Refused, Faulted, outcome, acted, happened, broken_of, last_faults, restarts}
use Rattle.front_defs.specs.Ids.{live_of}
use Rattle.front_defs.specs.Jobs.{taken_of}
use Rattle.front_defs.specs.Legal.{Legal}
use Rattle.front_defs.specs.May.{May}
use Rattle.front_defs.specs.Stands.{View, Stands, StandsOpen}
use Rattle.front_core.specs.Made.{made}
use Rattle.front_core.specs.Parts.{IsCalm, IsFront}

-- the parts after what happened now
pub record Leaves (new : View) (Es now : List Event) : Type 0 where
  pub live : live_of now ≡ live_of Es
  pub taken : taken_of now ≡ taken_of Es
  pub parts : StandsOpen new now

-- after what a command makes happen that is answered well
abbrev pub Acts : View → View → List Event → Command → Type 0
Acts v new Es c = Leaves new Es (acted Es c ++ Es)

sound_of : (v : View) (H : List Entry) → v.broken ≡ false → Stands v H → broken_of H ≡ false
sound_of v H b s = sym s.jobs.broken ∙ b

goes : (v new : View) (H : List Entry) (seat : List ℕ) (c : Command) (r : Reply) (o : Outcome) → outcome r ≡ o → IsFront v → IsCalm v new → (o ≡ Faulted → ⊥) → (o ≡ Refused → new ≡ v) → (o ≡ Well → Acts v new (happened H) c) → Stands v H → Stands new (Made (made seat c r) ∷ H)
goes v new H seat c r Well e p k works kept well s =
    let a = well refl in
    record {
      jobs = record { live = rw e (k.live ∙ s.jobs.live ∙ sym a.live); taken = rw e (k.taken ∙ s.jobs.taken ∙ sym a.taken); broken = rw e (k.broken ∙ s.jobs.broken) };
      count = k.faults ∙ p.faultless;
      open_parts = λ _. rw e a.parts;
    }
goes v new H seat c r Refused e p k works kept well s =
    let same = kept refl in
    record {
      jobs = record { live = rw e (k.live ∙ s.jobs.live); taken = rw e (k.taken ∙ s.jobs.taken); broken = rw e (k.broken ∙ s.jobs.broken) };
      count = k.faults ∙ p.faultless;
      open_parts = λ _. rw e (subst (λ (x : View). StandsOpen x (happened H)) (sym same) (s.open_parts (sound_of v H p.sound s)));
    }
goes v new H seat c r Faulted e p k works kept well s = absurd (works refl)

-- what a front stands for after a step
pub stands_on : (v new : View) (H : List Entry) (seat : List ℕ) (c : Command) (r : Reply) → IsFront v → IsCalm v new → (outcome r ≡ Faulted → ⊥) → (outcome r ≡ Refused → new ≡ v) → (outcome r ≡ Well → StandsOpen v (happened H) → Acts v new (happened H) c) → Stands v H → Stands new (Made (made seat c r) ∷ H)
stands_on v new H seat c r p k works kept well s =
    goes v new H seat c r (outcome r) refl p k works kept (λ w. well w (s.open_parts (sound_of v H p.sound s))) s

counts : (v : View) (o : Option ℕ) → v.faults ≡ 0 → IfSome o (λ n. v.faults ≡ n) → IfSome o (λ n. 0 ≡ n)
counts v None f h = tt
counts v (Some n) f h = sym f ∙ h

-- its entry is legal
pub legal_on : (v : View) (H : List Entry) (seat : List ℕ) (c : Command) (r : Reply) → IsFront v → (outcome r ≡ Faulted → ⊥) → (restarts c ≡ true → r ≡ reply.Done → ⊥) → (StandsOpen v (happened H) → Answer (happened H) c r) → Stands v H → Legal H → May H c → Legal (Made (made seat c r) ∷ H)
legal_on v H seat c r p works stays answers s l m =
    let sound = sound_of v H p.sound s in (
      record {
        answer = inl (answers (s.open_parts sound));
        may = m;
        marks = record {
          rose = refl;
          fault = λ e. absurd (works (ap outcome e));
          took = λ e. absurd (cc);
          opens_only = λ e. absurd (cc);
          opens = λ b. absurd (cc (b, sound));
          restarted = λ e d. absurd (stays e d);
          later = omega arith;
          counts = counts v (last_faults H) p.faultless s.count;
        };
      },
      l,
    )

-- The worked histories are legal.
use Rattle.std.proofs.Common.{◌≡◌, ℕ, true, false, refl, sym, ◌∙◌, ap, map, ◌⊎◌, inl, inr, List, [], ◌∷◌, IfSome, arith}
use Rattle.rowsets.specs.RowsetView.{rowset_rows}
use Rattle.dl_values.specs.declared.cell.Cell.{Cell}
use Rattle.schema_models.specs.ShapeView.{ShapeView}
use Rattle.schema_models.specs.Folds.{fold_of}
use Rattle.schema_models.specs.ShapeRules.{shape_fault}
use Rattle.partitions.specs.LayoutFaults.{layout_fault}
use Rattle.shadow_writes.specs.declared.built.Built.{Built}
use Rattle.front_defs.specs.declared.command.Command.{Command}
use Rattle.front_defs.specs.declared.command.Command.TheVariants as command
use Rattle.front_defs.specs.declared.reply.Reply.{Reply}
use Rattle.front_defs.specs.declared.reply.Reply.TheVariants as reply
use Rattle.front_defs.specs.declared.history.Call.{Call}
use Rattle.front_defs.specs.declared.history.Entry.{Entry}
use Rattle.front_defs.specs.declared.catalogue.Table.{Table}
use Rattle.table_defs.specs.Columns.{shape_of}
use Rattle.front_defs.specs.Answer.{Answer, Shows}
use Rattle.front_defs.specs.Indexes.{base_index}
use Rattle.front_defs.specs.History.{happened, broken_of, last_faults, restarts}
use Rattle.front_defs.specs.May.{May, IsBuilt}
use Rattle.front_defs.specs.Legal.{Legal, IsLegal}
use Rattle.front_defs.specs.Script.{Served}
use Rattle.front_laws.specs.Laws.{joined}
use Rattle.front_laws.specs.Parted.{restarted}
use Rattle.front_laws.specs.Examples.{plain, plan, made, begun, submitted, loaded, both_begun, later_first, both_submitted, one_published, both_published, faulted, def, d, t, ShowsRows, publish_one, IsOnePublish}

plain_legal : (c : Command) (r : Reply) (H : List Entry) → restarts c ≡ false → Answer (happened H) c r → May H c → (r ≡ reply.KeeperFault → ⊥) → broken_of H ≡ false → IfSome (last_faults H) (λ n. 0 ≡ n) → IsLegal (plain c r) H
plain_legal c r H stays answer may other whole count = record {
  answer = inl answer;
  may = may;
  marks = record {
    rose = refl;
    fault = λ e. absurd (other e);
    took = λ e. absurd (cc);
    opens_only = λ e. absurd (cc);
    opens = λ e. absurd (cc (e, whole));
    restarted = λ e k. absurd (cc (e, stays));
    later = omega arith;
    counts = count;
  };
}

pub made_legal : Legal made
unfolding shape_fault layout_fault
made_legal = (plain_legal (command.CreateTable d t def false) reply.Done _ refl (inr refl) tt (λ e. cc) refl refl, (plain_legal (command.CreateDb d false) reply.Done [] refl (inr refl) tt (λ e. cc) refl tt, tt))

begun_legal : Legal begun
begun_legal = (plain_legal _ _ made refl (inr refl) tt (λ e. cc) refl refl, made_legal)

pub loaded_legal : (built : Built) → IsBuilt (plan 1) built → Legal (loaded built)
loaded_legal built is = (plain_legal _ _ (submitted built) refl (inr refl) tt (λ e. cc) refl refl, (plain_legal _ _ begun refl (inr refl) (inl (refl, is)) (λ e. cc) refl refl, begun_legal))

pub both_legal : (first second : Built) → IsBuilt (plan 1) first → IsBuilt (plan 2) second → Legal (both_published first second)
both_legal first second is also =
    (plain_legal _ _ (one_published first second) refl (inr refl) tt (λ e. cc) refl refl, (plain_legal _ _ (both_submitted first second) refl (inr refl) tt (λ e. cc) refl refl, (plain_legal _ _ (later_first second) refl (inr refl) (inr (inr (inl (refl, is)))) (λ e. cc) refl refl, (plain_legal _ _ both_begun refl (inr refl) (inl (refl, also)) (λ e. cc) refl refl, (plain_legal _ _ begun refl (inr refl) tt (λ e. cc) refl refl, begun_legal)))))

pub faulted_legal : (built : Built) → IsBuilt (plan 1) built → Legal (faulted built true)
faulted_legal built is = (
  record {
    answer = inr refl;
    may = inl (refl, is);
    marks = record {
      rose = refl;
      fault = λ e. (refl, inr (inr refl));
      took = λ e. (refl, refl, refl);
      opens_only = λ e. absurd (cc);
      opens = λ e. absurd (cc);
      restarted = λ e k. absurd (cc);
      later = omega arith;
      counts = refl;
    };
  },
  begun_legal,
)

-- an opening that was asked for
pub restarted_legal : Legal restarted
restarted_legal = (
  record {
    answer = inl (inr refl);
    may = tt;
    marks = record {
      rose = refl;
      fault = λ e. absurd (cc);
      took = λ e. absurd (cc);
      opens_only = λ e. inr refl;
      opens = λ e. absurd (cc);
      restarted = λ e k. refl;
      later = omega arith;
      counts = refl;
    };
  },
  begun_legal,
)

-- what a snapshot of the table shows
shows_rows : (b : Table) (base shown : List (List Cell)) (cost : ℕ) (r : Reply) → Shows b (base_index b) base cost r → b.shape ≡ shape_of def → fold_of b.shape base ≡ shown → ShowsRows shown r
shows_rows b base shown cost (reply.Snap s) h shape is = ap (λ (x : ShapeView). fold_of x (joined (map (λ l. rowset_rows l.value) s.lists))) (sym shape) ∙ h.2.rows ∙ is
shows_rows b base shown cost _ h shape is = absurd h

pub reads : (b : Table) (base shown : List (List Cell)) (cost : ℕ) → b.shape ≡ shape_of def → fold_of b.shape base ≡ shown → (r : Reply) → (r ≡ reply.NoMemory) ⊎ Shows b (base_index b) base cost r → (r ≡ reply.NoMemory) ⊎ ShowsRows shown r
reads b base shown cost shape is r (inl e) = inl e
reads b base shown cost shape is r (inr h) = inr (shows_rows b base shown cost r h shape is)

-- the calls of a script that publishes once
pub one_publish : (calls : List Call) (response : Reply) → Served publish_one calls response → IsOnePublish calls response
one_publish [] response h = absurd h
one_publish (c ∷ calls) response h = (c, ap (λ (l : List Call). c ∷ l) h.1.0, h.0, h.1.1)

use Rattle.std.proofs.Common.{◌≡◌, ◌<◌, ◌≤◌, ◌+◌, ◌-◌, ◌∙◌, ℕ, List, [], ◌∷◌, ◌++◌, length, min, take, drop, ap, sym, subst, arith, append_assoc, length-drop, rules}
use Rattle.std.proofs.lemmas.List.{drop-drop, length-take-le, take-append-drop}
use Rattle.std.specs.List.{AllByRecursion}
use Rattle.columnar.proofs.Places.{full_push, ready_push, rows_push}
use Rattle.columnar.specs.Blocks.{AreFull, all_rows}
use Rattle.dl_values.specs.declared.cell.Cell.{Cell}
use Rattle.columnar.proofs.blocks.blocks_of.Goals as goal

-- the blocks with one more, of the next rows
record IsStep (start count : ℕ) (rows : List (List Cell)) (blocks : List (List (List Cell))) : Type 0 where
  pub within : start + count ≤ length rows
  pub so_far : all_rows blocks ++ drop (start + count) rows ≡ rows
  pub full : AreFull blocks
  pub ready : start + count < length rows → AllByRecursion (λ b. length b ≡ 1024) blocks

step : (start count : ℕ) (rows b : List (List Cell)) (blocks more : List (List (List Cell))) → start < length rows → count ≡ min (length rows - start) 1024 → b ≡ take count (drop start rows) → more ≡ blocks ++ b ∷ []
    → all_rows blocks ++ drop start rows ≡ rows → AllByRecursion (λ (x : List (List Cell)). length x ≡ 1024) blocks → IsStep start count rows more
step start count rows b blocks more l n e m so ready =
    let fits : count ≤ length (drop start rows) = simp length-drop (omega (arith, n)) in
    let size : length b ≡ count = ap (λ (x : List (List Cell)). length x) e ∙ length-take-le count (drop start rows) fits in
    record {
      within = omega (arith, n, l);
      so_far =
          ap (λ (x : List (List (List Cell))). all_rows x ++ drop (start + count) rows) m
          ∙ ap (λ (x : List (List Cell)). x ++ drop (start + count) rows) (rows_push blocks b)
          ∙ append_assoc (all_rows blocks) b (drop (start + count) rows)
          ∙ ap (λ (x : List (List Cell)). all_rows blocks ++ x) (ap (λ (x : List (List Cell)). x ++ drop (start + count) rows) e ∙ ap (λ (x : List (List Cell)). take count (drop start rows) ++ x) (sym (drop-drop count start rows)) ∙ take-append-drop count (drop start rows))
          ∙ so;
      full = subst (λ (x : List (List (List Cell))). AreFull x) (sym m) (full_push blocks b ready (omega (arith, size, n, l)) (omega (arith, size, n)));
      ready = λ t. subst (λ (x : List (List (List Cell))). AllByRecursion (λ (y : List (List Cell)). length y ≡ 1024) x) (sym m) (ready_push blocks b ready (omega (arith, size, n, t)));
    }

pub loop-start-preserved : goal.loop-start-preserved
loop-start-preserved c =
    let rows = c.args.rows.now in
    let l : c.loop-start.start < length rows = omega (arith, c.loop-start-test.true, c.len-in-loop-start.ensures) in
    let n : c.min-count.result ≡ min (length rows - c.loop-start.start) 1024 = search rules in
    let s = step c.loop-start.start c.min-count.result rows c.in_ok-of.field-0 c.loop-start.blocks.items c.push.new.self.items l n c.in_ok-of.ensures c.in_ok-push.ensures.items c.loop-start.invariant.so_far (c.loop-start.invariant.ready l) in
    record { within = s.within; so_far = s.so_far; full = s.full; ready = s.ready }

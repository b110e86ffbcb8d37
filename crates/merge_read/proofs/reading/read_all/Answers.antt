use Rattle.std.proofs.Common.{◌≡◌, ◌+◌, ◌<◌, ◌∙◌, ℕ, List, [], ◌∷◌, ◌++◌, length, ap, sym, arith, append_assoc}
use Rattle.std.proofs.lemmas.List.{append-nil}
use Rattle.dl_values.specs.declared.cell.Cell.{Cell}
use Rattle.merge_read.specs.Merged.{row_of}
use Rattle.merge_read.proofs.reading.read_all.Goals as goal

-- one row more is copied
more : (all new left rest fold : List (List Cell)) (row made : List Cell) → new ≡ all ++ row ∷ [] → row ≡ made → left ≡ made ∷ rest → all ++ left ≡ fold → new ++ rest ≡ fold
more all new left rest fold row made e r l h =
    ap (λ (x : List (List Cell)). x ++ rest) e ∙ append_assoc all (row ∷ []) rest ∙ ap (λ (x : List Cell). all ++ x ∷ rest) r ∙ ap (λ (x : List (List Cell)). all ++ x) (sym l) ∙ h

fewer : (left rest : List (List Cell)) (made : List Cell) → left ≡ made ∷ rest → length rest < length left
fewer left rest made e = let n : length left ≡ length (made ∷ rest) = ap (λ (x : List (List Cell)). length x) e in omega (arith, n)

pub loop-alloc-preserved : goal.loop-alloc-preserved
loop-alloc-preserved g c = record {
  so_far = more c.loop-alloc.all c.add_row.new.all c.loop-alloc.merge.left c.next.new.self.left _ (row_of c.present.result.now) c.next.new.self.present c.in_ok-add_row.ensures c.present.ensures c.loop-alloc-test.ensures.next c.loop-alloc.invariant.so_far;
  counted = c.loop-alloc-test.ensures.counted ∙ c.loop-alloc.invariant.counted;
}

pub loop-alloc-smaller : goal.loop-alloc-smaller
loop-alloc-smaller g c = fewer c.loop-alloc.merge.left c.next.new.self.left c.next.new.self.present c.loop-alloc-test.ensures.next

whole : (all left fold : List (List Cell)) → left ≡ [] → all ++ left ≡ fold → all ≡ fold
whole all left fold e h = sym (append-nil all) ∙ ap (λ (x : List (List Cell)). all ++ x) (sym e) ∙ h

done : (more unread before steps all : ℕ) → more + unread ≡ before → unread ≡ 0 → before ≡ steps + all → more ≡ steps + all
done more unread before steps all a b c = omega arith

pub returns : goal.returns
returns g c = record {
  read = whole c.loop-alloc.all c.loop-alloc.merge.left _ c.loop-alloc-test.ensures.next.0 c.loop-alloc.invariant.so_far;
  counted = done c.next.new.steps c.next.new.self.unread _ c.args.steps.now _ c.loop-alloc-test.ensures.counted c.loop-alloc-test.ensures.next.2 c.loop-alloc.invariant.counted;
}

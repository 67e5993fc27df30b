use Rattle.std.proofs.Common.{◌≡◌, ℕ, ◌+◌, ◌≤◌, List, ◌++◌, rules, length, take, drop, sym, ap, ◌∙◌, subst, le_refl, drop_at, length-take-le}
use Rattle.std.proofs.lemmas.Slice.{take-put_mid_below}
use Rattle.std.proofs.KnownBytes.{Consumes-trans}
use Rattle.std.proofs.Math.Seq.{take-add, take-append-le}
use Rattle.std.specs.Io.KnownBytes.{Consumes}
use borrow.Rule.Slice.PartMut.{put_mid, post_of}
use Rattle.hexlines.proofs.read_full.Goals as goal

-- n bytes more in the part that begins at a
take_more : (a k n : ℕ) (xs ys : List ℕ) → a ≤ length xs → n ≤ length ys → take (a + n) (put_mid a k xs ys) ≡ take a xs ++ take n ys
take_more a k n xs ys within fits =
    let new = put_mid a k xs ys in
    let after = post_of a k xs in
    let rest : take n (drop a new) ≡ take n ys = ap (take n) (drop_at (take a xs) (ys ++ after) a (length-take-le a xs within)) ∙ take-append-le n ys after fits in
    take-add a n new ∙ ap (λ l. l ++ take n (drop a new)) (take-put_mid_below a k xs ys a (le_refl a) within) ∙ ap (λ l. take a xs ++ l) rest

pub loop-done-preserved : goal.loop-done-preserved
loop-done-preserved g c =
    let more = take_more c.loop-done.done _ c.in_ok-n.n c.loop-done.buf c.read.new.buf c.loop-done.invariant.within c.in_ok-n.ensures.bound.0 in
    record {
      within = search rules;
      consumed = subst (Consumes _ _) (sym more) (Consumes-trans _ _ _ _ _ c.loop-done.invariant.consumed c.in_ok-n.ensures.bytes.0);
    }

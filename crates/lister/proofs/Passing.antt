-- What is read of an input decides its listing. Assumes nothing.
use Prim.Native.Nat.{ℕ, ◌+◌, ◌<◌, ◌≤◌}
use mathlib.Core.Path.{◌≡◌, refl, sym, ap, subst, ◌∙◌}
use mathlib.Core.Bool.{Bool, true, false}
use mathlib.Core.List.{List, [], ◌++◌, append-nil}
use native.Mathlib.Omega.{arith}
use borrow.Author.Tests.{ltb-true, ltb-false}
use borrow.Rule.Slice.PartMut.{put_mid, post_of}
use lib.Dec.{ltb}
use lib.ListN.{length, take, drop, length-append}
use lib.Seq.{drop_at, length-take-le, take-add, take-append-le, take_at}
use Rattle.std.specs.Prelude.{OnOk, IfSome, Result, Ok, Err, None, Some}
use Rattle.std.specs.declared.option.Option.{Option}
use Rattle.std.specs.Io.KnownBytes.{Appends, Consumes, IsAtEnd}
use Rattle.std.proofs.lemmas.Slice.{take-put_mid_below}
use Rattle.lister.specs.Listing.{listing, over}
use Rattle.lister.proofs.Limit.{too_long}

-- the n bytes that a read put behind the first ones
pub behind : (at k n : ℕ) (old new : List ℕ) → at ≤ length old → n ≤ length new → take at old ++ take n new ≡ take (at + n) (put_mid at k old new)
behind at k n old new within fits =
    let front = take-put_mid_below at k old new at (omega arith) within in
    let rest = ap (take n) (drop_at (take at old) (new ++ post_of at k old) at (length-take-le at old within)) ∙ take-append-le n new (post_of at k old) fits in
    sym (take-add at n (put_mid at k old new) ∙ ap (λ l. l ++ take n (drop at (put_mid at k old new))) front ∙ ap (λ l. take at old ++ l) rest)

-- an input is read to its end, or 65,537 bytes of it are read
decided : (input read rest : List ℕ) → input ≡ read ++ rest → (length read < 65_537 → rest ≡ []) → listing read ≡ listing input
decided input read rest p end = go (ltb (length read) 65_537) refl
  where
    go : (less : Bool) → ltb (length read) 65_537 ≡ less → listing read ≡ listing input
    go true e = ap listing (sym (p ∙ ap (λ l. read ++ l) (end (ltb-true _ _ e)) ∙ append-nil read))
    go false e =
        let more : 65_537 ≤ length read = ltb-false _ _ e in
        too_long read more ∙ sym (too_long input (omega (arith, ap length p, length-append read rest)))

pub relayed : {T E : Type 0} (r : Result T E) (from left held new : Option (List ℕ)) (read out lent : List ℕ) {end : ℕ} → Consumes from left read
    → (length read < 65_537 → IsAtEnd left) → (end ≡ length (listing read)) × (out ≡ over (listing read) lent) → OnOk r (Appends held new (take end out))
    → OnOk r (IfSome from (λ input. Appends held new (listing input)))
relayed (Err e) from left held new read out lent p end list put = tt
relayed (Ok u) None left held new read out lent p end list put = tt
relayed (Ok u) (Some input) None held new read out lent p end list put = absurd p
relayed (Ok u) (Some input) (Some rest) held new read out lent p end list put =
    subst (Appends held new) (rw (list.1, take_at (listing read) _ _ (sym list.0)) (decided input read rest p end)) put

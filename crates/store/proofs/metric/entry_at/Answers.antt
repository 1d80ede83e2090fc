-- `store::metric::entry_at` meets its contract. Assumes nothing.
use mathlib.Core.Path.{◌∙◌}
use Prim.Native.Nat.{ℕ}
use Rattle.readers.specs.Reading.{unsigned_at}
use Rattle.readers.specs.Numbers.{as_u24}
use Rattle.readers.specs.declared.U24.{U24}
use Rattle.readers.proofs.Reading.{handed_on, seen_by, cut_alike}
use Rattle.store.proofs.Entries.{entry_of_size}
use Rattle.store.proofs.metric.entry_at.Goals as goal

pub returns-in_err-read-in-1 : goal.returns-in_err-read-in-1
unfolding unsigned_at
returns-in_err-read-in-1 c = entry_of_size _ _ 1 _ _ c.in-1.is (handed_on (λ (x : ℕ). x) _ _ c.from_residual.ensures ∙ c.in_err-read-in-1.ensures)

pub returns-in_err-read-in-2 : goal.returns-in_err-read-in-2
unfolding unsigned_at
returns-in_err-read-in-2 c = entry_of_size _ _ 2 _ _ c.in-2.is (handed_on (λ (x : ℕ). x) _ _ c.from_residual-in_err-read-in-2.ensures ∙ c.in_err-read-in-2.ensures)

pub returns-in_err-read-in-3 : goal.returns-in_err-read-in-3
unfolding unsigned_at
returns-in_err-read-in-3 c =
    entry_of_size _ _ 3 _ _ c.in-3.is
    (handed_on (λ (x : ℕ). x) _ _ c.from_residual-in_err-read-in-3.ensures ∙ cut_alike _ 3 _ as_u24 (λ (u : U24). u.0) _ c.in_err-read-in-3.ensures)

pub returns-in_ok-read-in-1 : goal.returns-in_ok-read-in-1
unfolding unsigned_at
returns-in_ok-read-in-1 c = entry_of_size _ _ 1 _ _ c.in-1.is c.in_ok-read-in-1.ensures

pub returns-in_ok-read-in-2 : goal.returns-in_ok-read-in-2
unfolding unsigned_at
returns-in_ok-read-in-2 c = entry_of_size _ _ 2 _ _ c.in-2.is c.in_ok-read-in-2.ensures

pub returns-in_ok-read-in-3 : goal.returns-in_ok-read-in-3
unfolding unsigned_at
returns-in_ok-read-in-3 c = entry_of_size _ _ 3 _ _ c.in-3.is (seen_by _ 3 _ as_u24 (λ (u : U24). u.0) _ c.in_ok-read-in-3.ensures)

pub returns-in-4 : goal.returns-in-4
unfolding unsigned_at
returns-in-4 c = entry_of_size _ _ 4 _ _ c.in-4.is c.read-in-4.ensures

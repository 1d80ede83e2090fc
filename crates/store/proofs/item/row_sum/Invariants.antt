-- `store::item::row_sum` meets its contract. The loop's invariant: the regions that are left, onto the sum so far, give the answer. Assumes nothing.
use Prim.Native.Nat.{ℕ}
use mathlib.Core.Path.{◌≡◌}
use mathlib.Core.List.{List}
use lib.IntN.{ℤ}
use Rattle.readers.specs.Reading.{Reading, answer, run}
use Rattle.readers.specs.Walk.{walk}
use Rattle.opentype.specs.Region.{region_scalar}
use Rattle.opentype.specs.Item.{Item, region_start, row_turn, item_sum}
use Rattle.store.proofs.item.row_sum.Given as goal

-- The regions of a row from k on, onto a sum.
abbrev pub sum_from : List ℤ → Item → ℕ → ℤ → Reading ℤ
sum_from coords item k sum =
    let regions = item.regions in
    walk (row_turn (λ region. region_scalar coords regions.axis_count (region_start regions region)) regions.region_count item.row) answer item.row.region_index_count k sum

-- The item that the code's locals make: a loop's invariant doesn't see a struct that the loop doesn't use.
abbrev pub item_over : ℕ → ℕ → ℕ → ℕ → ℕ → ℕ → ℕ → Item
item_over axes count index_count words start indexes row = record {
  regions = record { start = start; axis_count = axes; region_count = count };
  row = record { region_indexes = indexes; region_index_count = index_count; word_delta_count = words; start = row };
}

abbrev pub invariant-loop-k : goal.invariant-loop-k
invariant-loop-k l =
    let item = item_over l.axis_count l.region_count l.count l.word_count l.regions l.indexes l.row in
    run l.font (sum_from l.coords item l.k l.sum.0) ≡ run l.font (item_sum l.coords item)

-- Lines, one behind another. Assumes nothing.
use Rattle.std.proofs.Common.{◌≡◌, ℕ, ◌+◌, List, ◌++◌, length, take, drop, sym, ap, ◌∙◌, append_assoc, append-nil, length-append, add-one}
use Rattle.std.proofs.lemmas.List.{take_at, drop_at, drop-drop}
use Rattle.opentype.specs.Fvar.{Header}
use Rattle.lister.specs.Listing.{axis_text, axis_lines, over}

-- a line is put behind the text at the start of a buffer
module _ (text line lent : List ℕ) (out : List ℕ) (at : ℕ) (n : at ≡ length text) (h : out ≡ over text lent) where
  front : take at out ≡ text
  front = rw h (take_at text (drop (length text) lent) at (sym n))

  rest : drop (at + length line) out ≡ drop (length (text ++ line)) lent
  rest =
      sym (drop-drop (length line) at out) ∙ ap (drop (length line)) (ap (drop at) h ∙ drop_at text (drop (length text) lent) at (sym n)) ∙ drop-drop (length line) (length text) lent
      ∙ ap (λ k. drop k lent) (sym (length-append text line))

  pub behind : {items new : List ℕ} {end : ℕ} → items ≡ line → end ≡ at + length items → new ≡ take at out ++ items ++ drop end out
      → (end ≡ length (text ++ line)) × (new ≡ over (text ++ line) lent)
  behind same position after =
      let stop : _ = position ∙ ap (λ l. at + length l) same in
      (stop ∙ ap (λ k. k + length line) n ∙ sym (length-append text line), after ∙ rw (same, stop, front, rest))

pub no_axes : (table : List ℕ) (header : Header) (counts : List ℕ) → counts ++ axis_lines table header 0 ≡ counts
unfolding axis_lines
no_axes table header counts = append-nil counts

pub one_more : (table : List ℕ) (header : Header) (counts : List ℕ) (i : ℕ) → (counts ++ axis_lines table header i) ++ axis_text table header i ≡ counts ++ axis_lines table header (i + 1)
unfolding axis_lines
one_more table header counts i = rw (add-one i) (append_assoc counts (axis_lines table header i) (axis_text table header i))

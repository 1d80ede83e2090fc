-- `axes::fvar::Fvar::find_by_tag` meets its contract. Assumes nothing.
use mathlib.Core.Path.{◌≡◌}
use Rattle.readers.specs.Reading.{done}
use Rattle.readers.specs.Walk.{walk}
use Rattle.readers.specs.Outcome.{refused}
use Rattle.opentype.specs.Fvar.{tag_turn, axis_by_tag}
use Rattle.axes.specs.FvarAnswers.{header}
use Rattle.axes.proofs.fvar.Fvar.find_by_tag.Given as goal

abbrev pub invariant-loop-i : goal.invariant-loop-i
invariant-loop-i l = walk (tag_turn l.table (header l.self) l.tag) (λ d. refused 4) l.self.axis_count l.i done ≡ axis_by_tag l.table (header l.self) l.tag

-- No second answer, and no second content of the buffer: over each public function's own contract; of `run`, where it reads and writes. Assumes nothing.
use mathlib.Core.Path.{◌≡◌, refl}
use mathlib.Core.Bool.{false≢true}
use Rattle.std.specs.Prelude.{IsOk, Ok, Err}
use Rattle.numbers.specs.One.{OneSeen, ◌and◌}
use Rattle.lister.proofs.list.Reads as list
use Rattle.lister.proofs.run.Reads as run

pub list_one : OneSeen list.Post (λ r s. r and s.1.0.now)
list_one κs a r r' s s' p q = cc

-- it may fail, and where it does not it answers nothing
pub run_one : (κs : _) (a : _) (r r' : _) (s s' : _) → run.Post κs a r s → run.Post κs a r' s' → IsOk r → IsOk r' → r ≡ r'
run_one κs a (Ok x) (Ok y) s s' p q h k = refl
run_one κs a (Ok x) (Err e) s s' p q h k = absurd (false≢true k)
run_one κs a (Err e) r' s s' p q h k = absurd (false≢true h)

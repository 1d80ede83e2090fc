-- `axes::variation::Lent::setting_coord` meets its contract. Assumes nothing.
use Rattle.opentype.specs.Variation.{setting_coord}
use Rattle.axes.proofs.variation.Lent.setting_coord.Goals as goal

pub returns-in-Ok : goal.returns-in-Ok
unfolding setting_coord
returns-in-Ok c = rw (← c.get_axis.ensures, c.in-Ok.is) c.axis_coord.ensures

pub returns-in-Err : goal.returns-in-Err
unfolding setting_coord
returns-in-Err c = rw (← c.get_axis.ensures, c.in-Err.is)

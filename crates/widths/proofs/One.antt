-- No second answer: for each public function, two answers that its contract allows are the same. Assumes nothing.
use Rattle.numbers.specs.One.{One}
use Rattle.readers.proofs.One.{one_plain}
use Rattle.widths.proofs.xmtx.advance.Reads as advance
use Rattle.widths.proofs.xmtx.sb.Reads as sb
use Rattle.widths.proofs.vorg.origin.Reads as origin
use Rattle.widths.proofs.adjusted.adjusted_advance.Reads as adjusted-advance
use Rattle.widths.proofs.adjusted.adjusted_sb.Reads as adjusted-sb
use Rattle.widths.proofs.glyph.advance_width.Reads as advance-width
use Rattle.widths.proofs.glyph.lsb.Reads as lsb
use Rattle.widths.proofs.glyph.advance_height.Reads as advance-height
use Rattle.widths.proofs.glyph.tsb.Reads as tsb
use Rattle.widths.proofs.glyph.vertical_origin.Reads as vertical-origin

pub advance_one : One advance.Post
advance_one κs a r r' s s' p q = one_plain p q

pub sb_one : One sb.Post
sb_one κs a r r' s s' p q = one_plain p q

pub origin_one : One origin.Post
origin_one κs a r r' s s' p q = one_plain p q

pub adjusted_advance_one : One adjusted-advance.Post
adjusted_advance_one κs a r r' s s' p q = one_plain p q

pub adjusted_sb_one : One adjusted-sb.Post
adjusted_sb_one κs a r r' s s' p q = one_plain p q

pub advance_width_one : One advance-width.Post
advance_width_one κs a r r' s s' p q = one_plain p q

pub lsb_one : One lsb.Post
lsb_one κs a r r' s s' p q = one_plain p q

pub advance_height_one : One advance-height.Post
advance_height_one κs a r r' s s' p q = one_plain p q

pub tsb_one : One tsb.Post
tsb_one κs a r r' s s' p q = one_plain p q

pub vertical_origin_one : One vertical-origin.Post
vertical_origin_one κs a r r' s s' p q = one_plain p q

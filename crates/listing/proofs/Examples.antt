-- The listing of a font with one weight axis, and a line of each other kind, computed from the definitions. Assumes nothing.
use mathlib.Core.Path.{◌≡◌, refl}
use lib.IntN.{pos, negsuc}
use Rattle.listing.specs.Text.{ascii, digit, digits, places_in, places, decimal, signed, hex8}
use Rattle.listing.specs.Lines.{line, counts_line, axis_line, refused_line, too_long_line}

pub first_line : counts_line 1 0 ≡ ascii "axes 1 instances 0\n"
unfolding counts_line line decimal digits digit places places_in
first_line = refl

pub weight : axis_line 0 0x7767_6874 (pos 6_553_600) (pos 26_214_400) (pos 58_982_400) 0 256 ≡ ascii "0 77676874 6553600 26214400 58982400 0 256\n"
unfolding axis_line line hex8 signed decimal digits digit places places_in
weight = refl

-- leading zeros of a tag, a minus sign, and the ends of the ranges
pub extremes : axis_line 65_535 0xa0b (negsuc 2_147_483_647) (negsuc 0) (pos 2_147_483_647) 65_535 10 ≡ ascii "65535 00000a0b -2147483648 -1 2147483647 65535 10\n"
unfolding axis_line line hex8 signed decimal digits digit places places_in
extremes = refl

pub refused : refused_line 2 2 ≡ ascii "2 refused 2\n"
unfolding refused_line line decimal digits digit places places_in
refused = refl

pub too_long : too_long_line ≡ ascii "input too long\n"
unfolding too_long_line line
too_long = refl

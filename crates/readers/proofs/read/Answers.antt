-- `readers::read` meets its contract. Assumes nothing.
use Rattle.std.proofs.Common.{ap, ◌∙◌, arith}
use Rattle.readers.specs.Outcome.{value}
use Rattle.readers.specs.Reading.{answer}
use Rattle.readers.proofs.Bytes.{present, missing}
use Rattle.readers.proofs.Reading.{answered}
use Rattle.readers.proofs.read.Goals as goal
use Rattle.readers.proofs.read.Goals.{then-font-SIZE-via-then-font-SIZE, then-font-SIZE-via-else-font-SIZE+then-font-SIZE-2}

pub returns-then-font-SIZE : goal.returns-then-font-SIZE
returns-then-font-SIZE g c =
    missing g.T.FromBeData.SIZE c.args.font.now c.args.at (λ x. answer (g.T.FromBeData.of_number x))
    (elim c.then-font-SIZE.branch [
      | then-font-SIZE-via-then-font-SIZE w ↦ omega (arith, c.SIZE.ensures, w.if-font-SIZE.true)
      | then-font-SIZE-via-else-font-SIZE+then-font-SIZE-2 w ↦ omega (arith, w.SIZE-else-font-SIZE.ensures, w.if-font-SIZE-2.true)
    ])

pub returns : goal.returns
returns g c =
    present g.T.FromBeData.SIZE c.args.font.now c.args.at (λ x. answer (g.T.FromBeData.of_number x)) _
    (omega (arith, c.SIZE.ensures, c.SIZE-else-font-SIZE.ensures))
    (ap value c.from_be_data.ensures ∙ answered c.args.font.now _)

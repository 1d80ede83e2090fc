-- What a change of the code's measures makes.
use Rattle.std.specs.Prelude.{◌≡◌}
use Rattle.metrics.specs.Measures as Measures
use Rattle.metrics.specs.Structs.{metrics_of}
use Rattle.metrics.specs.declared.measures.Metrics.{Metrics}

-- A call makes of the measures what a rule says.
abbrev pub Makes : (Metrics → Metrics → Type 0) → (Measures.Metrics → Measures.Metrics) → Type 0
Makes post rule = (m r : Metrics) → post m r → metrics_of r ≡ rule (metrics_of m)

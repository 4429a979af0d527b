-- A verdict that fits has a text of its own.
use Rattle.std.specs.Prelude.{◌≡◌, false}
use Rattle.mr_shards.specs.Verdict.{Told, spelling}
use Rattle.mr_shards.specs.Reading.{Fits}

abbrev pub OneText : Type 0
OneText = (v w : Told) → Fits false v → Fits false w → spelling v ≡ spelling w → v ≡ w

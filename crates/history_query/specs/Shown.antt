-- The version that a sight shows.
use Rattle.std.specs.Prelude.{List, Contains, IfSome}
use Rattle.object_past.specs.declared.version.Version.{Version}
use Rattle.history_query.specs.declared.sight.ObjectSight.{ObjectSight}
use Rattle.history_query.specs.declared.sight.ObjectSight.TheVariants.{Clouded, Told}

-- it is one of these, if it shows one
abbrev pub ShowsKnown : List Version → ObjectSight → Type 0
ShowsKnown versions Clouded = Unit {0}
ShowsKnown versions (Told present absent) = IfSome present (λ version. Contains versions version.now)

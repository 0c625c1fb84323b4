-- Why nothing was built, as what is remembered of a type.
use Rattle.lines.specs.declared.look.Absent.{Absent}
use Rattle.lines.specs.declared.look.Absent.TheVariants as absent
use Rattle.build.specs.declared.built.Unbuilt.{Unbuilt}
use Rattle.build.specs.declared.built.Unbuilt.TheVariants as unbuilt

abbrev pub absent_of : Unbuilt → Absent
absent_of unbuilt.None = absent.None
absent_of unbuilt.TooLarge = absent.TooLarge
absent_of (unbuilt.Wanted t) = absent.Unknown

-- Why a tree that does not grow, and values that do not fit, give no value.
use Rattle.tree_changes.specs.declared.grow.Unfit.{Unfit}
use Rattle.tree_changes.specs.declared.grow.Unfit.TheVariants as unfit
use Rattle.tree_changes.specs.declared.limit.Misfit.{Misfit}
use Rattle.tree_changes.specs.declared.limit.Misfit.TheVariants as misfit
use Rattle.build.specs.declared.built.Unbuilt.{Unbuilt}
use Rattle.build.specs.declared.built.Unbuilt.TheVariants as unbuilt

-- there is room for what is built, so that places are within the words
abbrev pub unbuilt_of : Unfit → Unbuilt
unbuilt_of unfit.TooLarge = unbuilt.TooLarge
unbuilt_of unfit.Outside = unbuilt.None

-- why values that do not fit give no array
abbrev pub unlisted_of : Misfit → Unbuilt
unlisted_of misfit.TooMany = unbuilt.None
unlisted_of misfit.TooLarge = unbuilt.TooLarge

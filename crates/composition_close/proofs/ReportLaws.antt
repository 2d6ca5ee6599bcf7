-- The list of releases, pushed one after the other, by the cases of what the panel had.
use Prim.Native.Nat.{◌<◌}
use mathlib.Core.Path.{◌≡◌, refl}
use mathlib.Core.Bool.{Bool, true, false, cond}
use mathlib.Core.List.{[]}
use native.Mathlib.Omega.{arith}
use Rattle.lists.specs.Tables.{packed, pushed, pushed_within}
use Rattle.composition_close.specs.declared.answer.SurfaceRelease.{SurfaceRelease}
use Rattle.composition_close.specs.declared.answer.SurfaceRelease.TheVariants.{Focus, PointerCapture, ImeComposition}
use Rattle.composition_close.specs.Reports.{SurfaceReleases, releases, release_list}

abbrev pub pushed_if : Bool → SurfaceRelease → SurfaceReleases → SurfaceReleases
pushed_if had x t = cond had (pushed_within releases t x) t

pub listed : (ime capture focus : Bool) → pushed_if focus Focus (pushed_if capture PointerCapture (pushed_if ime ImeComposition (packed releases []))) ≡ packed releases (release_list ime capture focus)
unfolding packed pushed pushed_within
listed true true true = refl
listed true true false = refl
listed true false true = refl
listed true false false = refl
listed false true true = refl
listed false true false = refl
listed false false true = refl
listed false false false = refl

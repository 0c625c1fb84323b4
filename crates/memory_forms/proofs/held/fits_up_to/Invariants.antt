-- `held::fits_up_to` meets its contract. Assumes nothing.
use Prim.Native.Nat.{◌-◌}
use Rattle.places.proofs.Steps.{Comes}
use Rattle.memory_definition.specs.Forms.{fits_up_to}
use Rattle.memory_laws.specs.Placed.{Placed}
use Rattle.memory_forms.proofs.held.fits_up_to.Given as goal

abbrev pub invariant-loop : goal.invariant-loop
invariant-loop l = Placed l.file l.place × Comes (λ k x. fits_up_to l.file k x l.c) (l.most - l.counter) l.place (fits_up_to l.file l.most l.initial.place l.c)

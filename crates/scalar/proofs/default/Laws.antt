-- A law for each return of default.rt. Assumes nothing.
use mathlib.Core.Path.{◌≡◌, refl}
use mathlib.Core.Logic.{inl, inr}
use mathlib.Core.List.{List, [], ◌∷◌}
use Prim.Native.Nat.{ℕ}
use borrow.Author.Rules.{rules}
use lib.Dec.{ltb}
use mathlib.Core.Bool.{Bool, true, false}
use Rattle.std.specs.Prelude.{Option}
use Rattle.std.specs.Bool.{then_some}
use Rattle.definition.specs.Base.{pick}
use types.Run.{OneOf, miss}
use denote.Enum.Declared.{tag_of}
use Rattle.definition.specs.contracts.records.Shape.{the_type}
use Rattle.definition.specs.declared.records.Shape.{Shape}
use Rattle.definition.specs.declared.records.Shape.TheVariants as shape
use Rattle.definition.specs.declared.records.Constant.{Constant}
use Rattle.definition.specs.Records.{constant_of}
use Rattle.definition.specs.Tree.{constant_tree, enumerated_tree, null_tree}
use Rattle.definition.specs.Ask.{Result, Outcome, ok, none, result_of}
use Rattle.definition.specs.Scalar.{as_tree, zero_of, long, as_integer_tree}
use Rattle.scalar.specs.String.{cut_by}
use Rattle.scalar.proofs.string.Laws.{none-counted}
use Rattle.scalar.specs.Default.{implicit_by}
use Rattle.scalar.proofs.NoScalar.{no_scalars, no-scalar}

pub zero-tree : (kind width : ℕ) {c : Constant} → c ≡ constant_of kind 0 0 0 0
    → as_tree (ok (record { kind = c.kind; sign = c.sign; low = c.low; high = c.high; width = width })) ≡ zero_of kind width
unfolding as_tree zero_of constant_of
zero-tree kind width e = rw e

pub integer-tree : (c : Constant) → as_tree (ok (record { kind = 1; sign = c.sign; low = c.low; high = c.high; width = 0 })) ≡ ok (as_integer_tree c)
unfolding as_tree as_integer_tree constant_of
integer-tree c = refl

-- ---- `implicit_default`: an arm for each shape
-- those that the last arm leaves: all that convert.rt leaves but references
abbrev with_parts : List ℕ
with_parts = 11 ∷ 12 ∷ 14 ∷ 15 ∷ 17 ∷ []

with-parts : (tag : ℕ) → OneOf with_parts tag → OneOf no_scalars tag
with-parts tag (inl e) = inl e
with-parts tag (inr (inl e)) = inr (inl e)
with-parts tag (inr (inr (inl e))) = inr (inr (inl e))
with-parts tag (inr (inr (inr (inl e)))) = inr (inr (inr (inl e)))
with-parts tag (inr (inr (inr (inr e)))) = inr (inr (inr (inr (inr e))))

module _ (s : Shape) (least : Constant) (member setting : ℕ) where
  pub from-other : OneOf with_parts (tag_of the_type s) → as_tree none ≡ implicit_by s least member setting
  unfolding implicit_by as_tree
  from-other h =
      no-scalar (λ (s : Shape). OneOf with_parts (tag_of the_type s) → none ≡ implicit_by s least member setting) s (with-parts (tag_of the_type s) h)
      (λ a b h. refl) (λ a b d h. refl) (λ a h. refl) (λ a h. refl) (λ a h. absurd (miss with_parts 16 tt h)) (λ h. refl) h

  pub from-string : {length width : ℕ} → s ≡ shape.String length width → {r : Result Constant} → r ≡ cut_by setting length width 0 0 → as_tree r ≡ implicit_by s least member setting
  unfolding implicit_by
  from-string e h = rw (e, h)

  pub from-reference : {target : ℕ} → s ≡ shape.Reference target → (c : Constant) → constant_tree c ≡ null_tree → as_tree (ok c) ≡ implicit_by s least member setting
  unfolding implicit_by as_tree
  from-reference e c h = rw (e, h)

  module _ {first count default underlying : ℕ} (e : s ≡ shape.Enumeration first count default underlying) where
    pub from-enumeration : (c : Constant) → constant_tree c ≡ enumerated_tree member 0 → {r : Option Constant} → r ≡ then_some (ltb default count) c
        → as_tree (result_of r) ≡ implicit_by s least member setting
    unfolding implicit_by as_tree
    from-enumeration c h k = rw (e, k) (go (ltb default count))
      where
        go : (b : Bool) → as_tree (result_of (then_some b c)) ≡ pick b (ok (enumerated_tree member 0)) none
        go true = rw h
        go false = refl

  module _ {x : Outcome} where
    pub from_bool : s ≡ shape.Bool → x ≡ zero_of 0 0 → x ≡ implicit_by s least member setting
    unfolding implicit_by
    from_bool e h = rw e h

    pub from-subrange : {a b d : ℕ} → s ≡ shape.Subrange a b d → x ≡ ok (as_integer_tree least) → x ≡ implicit_by s least member setting
    unfolding implicit_by
    from-subrange e h = rw e h

    module _ {bits : ℕ} where
      pub from_int : s ≡ shape.Int bits → x ≡ zero_of 1 0 → x ≡ implicit_by s least member setting
      unfolding implicit_by
      from_int e h = rw e h

      pub from-uint : s ≡ shape.UInt bits → x ≡ zero_of 1 0 → x ≡ implicit_by s least member setting
      unfolding implicit_by
      from-uint e h = rw e h

      pub from-real : s ≡ shape.Real bits → x ≡ zero_of 3 0 → x ≡ implicit_by s least member setting
      unfolding implicit_by
      from-real e h = rw e h

      pub from_bytes : s ≡ shape.Bytes bits → x ≡ zero_of 1 0 → x ≡ implicit_by s least member setting
      unfolding implicit_by
      from_bytes e h = rw e h

      module _ {width : ℕ} (w : width ≡ long bits) where
        pub from-time : s ≡ shape.Time bits → x ≡ zero_of 4 width → x ≡ implicit_by s least member setting
        unfolding implicit_by
        from-time e h = rw (e, ← w) h

        pub from-date : s ≡ shape.Date bits → x ≡ zero_of 6 width → x ≡ implicit_by s least member setting
        unfolding implicit_by
        from-date e h = rw (e, ← w) h

        pub from-time-of-day : s ≡ shape.TimeOfDay bits → x ≡ zero_of 5 width → x ≡ implicit_by s least member setting
        unfolding implicit_by
        from-time-of-day e h = rw (e, ← w) h

        pub from-date-and-time : s ≡ shape.DateAndTime bits → x ≡ zero_of 7 width → x ≡ implicit_by s least member setting
        unfolding implicit_by
        from-date-and-time e h = rw (e, ← w) h

pub ruleset laws = (rules, none-counted, zero-tree, integer-tree, from-other, from-string, from-reference, from-enumeration, from_bool, from-subrange, from_int, from-uint, from-real, from_bytes, from-time, from-date, from-time-of-day, from-date-and-time)

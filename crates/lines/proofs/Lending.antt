-- Lines whose words stay lent, one call after another. Assumes nothing.
use mathlib.Core.Path.{◌≡◌, refl, ap, ◌∙◌}
use Prim.Native.Nat.{ℕ}
use Rattle.std.specs.Prelude.{Option, Some, None}
use Rattle.lines.specs.declared.append.Lines.{Lines}
use Rattle.lines.specs.Lines.{Lends, ends}

pub lends-same : (l : Lines) → Lends l l
lends-same l = record { index = refl; store = refl; types = refl; words = refl }

pub lends-then : {a b c : Lines} → Lends a b → Lends b c → Lends a c
lends-then p q = record { index = q.index ∙ p.index; store = q.store ∙ p.store; types = q.types ∙ p.types; words = q.words ∙ p.words }

pub ends-some : {r : Option (Unit {0})} {u : Unit {0}} → r ≡ Some u → (e : ℕ) → ends r e ≡ Some e
ends-some i e = ap (λ (x : Option (Unit {0})). ends x e) i

pub ends-none : {r : Option (Unit {0})} → r ≡ None → (e : ℕ) → ends r e ≡ None
ends-none i e = ap (λ (x : Option (Unit {0})). ends x e) i

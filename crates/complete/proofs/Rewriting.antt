-- A law for each return of rewrite.rt, and for each turn of its loop. Assumes nothing.
use mathlib.Core.Path.{◌≡◌, refl, ap, sym, ◌∙◌}
use mathlib.Core.List.{List, [], ◌∷◌, ◌++◌, append_assoc}
use Prim.Native.Nat.{ℕ, zero, suc, ◌+◌, ◌-◌, ◌*◌, ◌/◌, ◌≤◌, ◌<◌}
use native.Mathlib.Omega.{arith}
use lib.ListN.{length, take, drop, set, get_or, length-append, length-drop, take-append-drop}
use lib.Seq.{take-set-le, drop-set-add, get_or-drop, length-take-le, take-append-add, drop-append-add, take_at, drop_at}
use borrow.Author.Rules.{rules}
use borrow.Author.Tests.{eq-eqb, ne_eqb}
use denote.Enum.Declared.{tag_of}
use Rattle.definition.specs.contracts.records.Expression.{the_type}
use Rattle.definition.specs.declared.records.Expression.{Expression}
use Rattle.definition.specs.declared.records.Expression.TheVariants as expression
use Rattle.definition.specs.Layout.{word, expressions}
use Rattle.definition.specs.Records.{expression_of, expression_at}
use Rattle.laws.specs.Cases.{by_kind}
use Rattle.definition.specs.Tree.{Node}
use Rattle.definition.specs.Complete.{written_node}
use Rattle.complete.specs.Rewrite.{on_node, with_node, rewritten, rewrote, valued}

-- ---- six words are a node
pub data Six : List ℕ → Type 0 where
  six : (h : Node) (l : List ℕ) → Six (with_node h l)

pub is-six : (l : List ℕ) → 6 ≤ length l → Six l
is-six [] h = absurd (omega arith)
is-six (a ∷ []) h = absurd (omega arith)
is-six (a ∷ b ∷ []) h = absurd (omega arith)
is-six (a ∷ b ∷ c ∷ []) h = absurd (omega arith)
is-six (a ∷ b ∷ c ∷ d ∷ []) h = absurd (omega arith)
is-six (a ∷ b ∷ c ∷ d ∷ e ∷ []) h = absurd (omega arith)
is-six (a ∷ b ∷ c ∷ d ∷ e ∷ g ∷ l) h = six (record { name = a; kind = b; sign = c; low = d; high = e; width = g }) l

-- ---- an expression that is a null, by its kind
null-at : (f : List ℕ) (x : ℕ) → word f expressions x 0 ≡ 4 → expression_at f x ≡ expression.Null
unfolding expression_at expression_of
null-at f x e = rw e

null-kind : (a k : ℕ) → tag_of the_type (expression_of k a) ≡ 4 → k ≡ 4
unfolding expression_of
null-kind a =
    by_kind 7 (λ k. tag_of the_type (expression_of k a) ≡ 4 → k ≡ 4) (λ e. e) (λ e. e) (λ e. e) (λ e. e) (λ e. e) (λ e. e) (λ e. e)
    (λ k e. absurd (omega arith))

null-view : (f : List ℕ) (x : ℕ) → expression_at f x ≡ expression.Null → word f expressions x 0 ≡ 4
unfolding expression_at
null-view f x e = null-kind _ (word f expressions x 0) (ap (tag_of the_type) e)

-- ---- one node, as the code finds it
module _ (f : List ℕ) where
  reference : (l : List ℕ) → Six l → get_or l 1 0 ≡ 11 → set l 1 12 ≡ rewritten f 1 l
  unfolding rewritten written_node
  reference l (six h m) e = rw e

  other : (l : List ℕ) → Six l → (get_or l 1 0 ≡ 11 → ⊥) → (get_or l 1 0 ≡ 12 → ⊥) → l ≡ rewritten f 1 l
  unfolding rewritten written_node
  other l (six h m) n k = rw (ne_eqb h.kind 11 n, ne_eqb h.kind 12 k)

  kept : (l : List ℕ) → Six l → get_or l 1 0 ≡ 12 → (word f expressions (get_or l 3 0) 0 ≡ 4 → ⊥) → l ≡ rewritten f 1 l
  unfolding rewritten written_node
  kept l (six h m) e n = rw (e, ne_eqb (word f expressions h.low 0) 4 n)

  null : (l : List ℕ) → Six l → get_or l 1 0 ≡ 12 → word f expressions (get_or l 3 0) 0 ≡ 4 → set (set l 1 10) 3 0 ≡ rewritten f 1 l
  unfolding rewritten written_node
  null l (six h m) e n = rw (e, eq-eqb (word f expressions h.low 0) 4 n)

-- ---- the same at a place
module _ (f s : List ℕ) (at : ℕ) (h : at + 6 ≤ length s) where
  here : Six (drop at s)
  here = is-six (drop at s) (simp length-drop (omega arith))

  put-together : (new : List ℕ) → take at new ≡ take at s → drop at new ≡ rewritten f 1 (drop at s) → new ≡ rewrote f 1 s at
  unfolding rewrote
  put-together new p q = sym (take-append-drop at new) ∙ rw (p, q)

  pub node-reference : get_or s (at + 1) 0 ≡ 11 → set s (at + 1) 12 ≡ rewrote f 1 s at
  node-reference q =
      put-together (set s (at + 1) 12) (take-set-le at s (at + 1) 12 (omega arith))
      (drop-set-add at s 1 12 ∙ reference f (drop at s) here (get_or-drop at s 1 0 ∙ q))

  pub node-other : (get_or s (at + 1) 0 ≡ 11 → ⊥) → (get_or s (at + 1) 0 ≡ 12 → ⊥) → s ≡ rewrote f 1 s at
  node-other n m = put-together s refl (other f (drop at s) here (λ q. n (sym (get_or-drop at s 1 0) ∙ q)) (λ q. m (sym (get_or-drop at s 1 0) ∙ q)))

  module _ (q : get_or s (at + 1) 0 ≡ 12) {x : Expression} (i : x ≡ expression_at f (get_or s (at + 3) 0)) where
    low-here : word f expressions (get_or (drop at s) 3 0) 0 ≡ word f expressions (get_or s (at + 3) 0) 0
    low-here = ap (λ (x : ℕ). word f expressions x 0) (get_or-drop at s 3 0)

    pub node-expression : (x ≡ expression.Null → ⊥) → s ≡ rewrote f 1 s at
    node-expression m = put-together s refl (kept f (drop at s) here (get_or-drop at s 1 0 ∙ q) (λ z. m (i ∙ null-at f _ (sym low-here ∙ z))))

    pub node-null : x ≡ expression.Null → {new : List ℕ} → new ≡ set (set s (at + 1) 10) (at + 3) 0 → new ≡ rewrote f 1 s at
    node-null z d =
        d
        ∙ put-together (set (set s (at + 1) 10) (at + 3) 0)
        (take-set-le at (set s (at + 1) 10) (at + 3) 0 (omega arith) ∙ take-set-le at s (at + 1) 10 (omega arith))
        (drop-set-add at (set s (at + 1) 10) 3 0 ∙ ap (λ (l : List ℕ). set l 3 0) (drop-set-add at s 1 10)
        ∙ null f (drop at s) here (get_or-drop at s 1 0 ∙ q) (low-here ∙ null-view f _ (sym i ∙ z)))

-- ---- many nodes
module _ (f : List ℕ) where
  on-length : (l : List ℕ) (g : Node → List ℕ → List ℕ) → ((h : Node) (m : List ℕ) → length (g h m) ≡ length (with_node h m)) → length (on_node l g) ≡ length l
  on-length [] g e = refl
  on-length (a ∷ []) g e = refl
  on-length (a ∷ b ∷ []) g e = refl
  on-length (a ∷ b ∷ c ∷ []) g e = refl
  on-length (a ∷ b ∷ c ∷ d ∷ []) g e = refl
  on-length (a ∷ b ∷ c ∷ d ∷ i ∷ []) g e = refl
  on-length (a ∷ b ∷ c ∷ d ∷ i ∷ j ∷ l) g e = e (record { name = a; kind = b; sign = c; low = d; high = i; width = j }) l

  pub rewritten-length : (n : ℕ) (l : List ℕ) → length (rewritten f n l) ≡ length l
  unfolding rewritten
  rewritten-length zero l = refl
  rewritten-length (suc n) l = on-length l _ (λ h m. rw (rewritten-length n m))

  -- what is behind them stays
  pub rewritten-behind : (n : ℕ) (l : List ℕ) → 6 * n ≤ length l → drop (6 * n) (rewritten f n l) ≡ drop (6 * n) l
  unfolding rewritten
  rewritten-behind zero l h = refl
  rewritten-behind (suc n) l h = rw e (go l (is-six l (omega arith)) h (λ m k. rewritten-behind n m k))
    where
      e : 6 * suc n ≡ suc (suc (suc (suc (suc (suc (6 * n))))))
      e = omega arith

      go : (l : List ℕ) → Six l → 6 * suc n ≤ length l → ((m : List ℕ) → 6 * n ≤ length m → drop (6 * n) (rewritten f n m) ≡ drop (6 * n) m)
          → drop (suc (suc (suc (suc (suc (suc (6 * n))))))) (rewritten f (suc n) l) ≡ drop (suc (suc (suc (suc (suc (suc (6 * n))))))) l
      go l (six h m) k ih = ih m (omega arith)

  pub rewrote-length : (n : ℕ) (s : List ℕ) (at : ℕ) → length (rewrote f n s at) ≡ length s
  unfolding rewrote
  rewrote-length n s at =
      length-append (take at s) (rewritten f n (drop at s)) ∙ ap (λ (k : ℕ). length (take at s) + k) (rewritten-length n (drop at s))
      ∙ sym (length-append (take at s) (drop at s)) ∙ ap length (take-append-drop at s)

  pub rewrote-front : (n : ℕ) (s : List ℕ) (at : ℕ) → at ≤ length s → take at (rewrote f n s at) ≡ take at s
  unfolding rewrote
  rewrote-front n s at h = take_at (take at s) (rewritten f n (drop at s)) at (length-take-le at s h)

  pub rewrote-rest : (n : ℕ) (s : List ℕ) (at : ℕ) → at ≤ length s → drop at (rewrote f n s at) ≡ rewritten f n (drop at s)
  unfolding rewrote
  rewrote-rest n s at h = drop_at (take at s) (rewritten f n (drop at s)) at (length-take-le at s h)

  -- one node, and then the others
  over : (p : List ℕ) (h : Node) (m : List ℕ) (k : ℕ)
      → p ++ with_node h (rewritten f k m) ≡ take (length p + 6) (p ++ with_node h m) ++ rewritten f k (drop (length p + 6) (p ++ with_node h m))
  over p h m k = rw (take-append-add p (with_node h m) 6, drop-append-add p (with_node h m) 6) (sym (append_assoc p (with_node h []) (rewritten f k m)))

  over-node : (l : List ℕ) → Six l → (p : List ℕ) (k : ℕ)
      → p ++ rewritten f (suc k) l ≡ take (length p + 6) (p ++ rewritten f 1 l) ++ rewritten f k (drop (length p + 6) (p ++ rewritten f 1 l))
  unfolding rewritten
  over-node l (six h m) p k = over p (written_node f h) m k

  step : (s : List ℕ) (at k : ℕ) → at + 6 ≤ length s → rewrote f (suc k) s at ≡ rewrote f k (rewrote f 1 s at) (at + 6)
  unfolding rewrote
  step s at k h = rw (length-take-le at s (omega arith)) at (over-node (drop at s) (here f s at h) (take at s) k)

-- after i nodes, those that are left come to what all of them come to
pub record Going (f old : List ℕ) (from nodes : ℕ) (room : List ℕ) (at i : ℕ) : Type 0 where
  pub same : rewrote f (nodes - i) room at ≡ rewrote f nodes old from
  pub fits : at + 6 * (nodes - i) ≤ length room
  pub long : length room ≡ length old

pub going-starts : (f old : List ℕ) (from nodes : ℕ) → from + 6 * nodes ≤ length old → Going f old from nodes old (from + 0 * 6) 0
going-starts f old from nodes h =
    let z : nodes - 0 ≡ nodes = omega arith in
    let y : from + 0 * 6 ≡ from = omega arith in
    record { same = rw (z, y) refl; fits = omega arith; long = refl }

module _ {f old : List ℕ} {from nodes : ℕ} {room : List ℕ} {i : ℕ} (g : Going f old from nodes room (from + i * 6) i) where
  pub going-fits : i < nodes → from + i * 6 + 6 ≤ length room
  going-fits h = omega (arith, g.fits)

  pub going_next : i < nodes → {new : List ℕ} → new ≡ rewrote f 1 room (from + i * 6) → Going f old from nodes new (from + (i + 1) * 6) (i + 1)
  going_next h {new} e =
      let l : length new ≡ length room = rw e (rewrote-length f 1 room (from + i * 6)) in
      let k : nodes - i ≡ suc (nodes - (i + 1)) = omega arith in
      let n : from + i * 6 + 6 ≡ from + (i + 1) * 6 = omega arith in
      let s : rewrote f (nodes - i) room (from + i * 6) ≡ rewrote f (nodes - (i + 1)) new (from + (i + 1) * 6) =
      ap (λ (n : ℕ). rewrote f n room (from + i * 6)) k ∙ step f room (from + i * 6) (nodes - (i + 1)) (going-fits h)
      ∙ ap (λ (x : List ℕ). rewrote f (nodes - (i + 1)) x (from + i * 6 + 6)) (sym e) ∙ ap (rewrote f (nodes - (i + 1)) new) n
      in
      record { same = sym s ∙ g.same; fits = omega (arith, g.fits); long = l ∙ g.long }

  pub going-long : length room ≡ length old
  going-long = g.long

  pub going-ends : nodes ≤ i → room ≡ rewrote f nodes old from
  unfolding rewrote rewritten
  going-ends h = let z : nodes - i ≡ 0 = omega arith in sym (take-append-drop (from + i * 6) room) ∙ rw z at g.same

-- ---- a slot's value
module _ (f : List ℕ) (s : List ℕ) (at end : ℕ) {kind : ℕ} where
  pub value-signed : kind ≡ 2 → set s (at + 1) 1 ≡ valued f kind s at end
  unfolding valued
  value-signed e = rw (eq-eqb kind 2 e)

  pub value-parts : (kind ≡ 2 → ⊥) → {new : List ℕ} → new ≡ rewrote f ((end - (at + 6)) / 6) s (at + 6) → new ≡ valued f kind s at end
  unfolding valued
  value-parts n e = rw (ne_eqb kind 2 n) e

pub ruleset nodes = (rules, node-reference, node-other, node-expression, node-null)

pub ruleset rewrites = (rules, going-starts, going-fits, going_next, going-long, going-ends, value-signed, value-parts)

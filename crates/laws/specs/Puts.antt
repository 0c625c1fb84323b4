-- Words or bytes that are put into a slice at a place, each behind those before: what lies before and behind them stays. Assumes nothing.
use Rattle.std.specs.Prelude.{◌≡◌, refl, List, [], ◌∷◌, ◌++◌, ℕ, suc, ◌+◌, ◌-◌, ◌≤◌, ◌<◌, length, take, drop, set}
use Rattle.std.proofs.Common.{ap, sym, ◌∙◌, append_assoc, append-nil, arith, add-one, add-zero, length-append, length-drop, take-append-drop, take_at, drop_at, drop-drop, length-take-le}
use Rattle.std.proofs.lemmas.List.{set_split}
use Rattle.std.proofs.Math.Seq.{append_snoc}

-- the words `ws` stand at `at`, up to r
pub record Puts (ws old : List ℕ) (at r : ℕ) (new : List ℕ) : Type 0 where
  pub ends : r ≡ at + length ws
  pub fits : r ≤ length old
  pub is : new ≡ take at old ++ ws ++ drop r old

pub puts_none : (old : List ℕ) (at : ℕ) → at ≤ length old → Puts [] old at at old
puts_none old at h = record { ends = sym (add-zero at); fits = h; is = sym (ap (λ (l : List ℕ). l ++ drop at old) (append-nil (take at old)) ∙ take-append-drop at old) }

-- one word
pub put_one : (old : List ℕ) (at word : ℕ) → at < length old → Puts (word ∷ []) old at (at + 1) (set old at word)
put_one old at word h = record { ends = refl; fits = omega arith; is = rw (add-one at) (set_split old at word h ∙ sym (append_snoc (take at old) word (drop (suc at) old))) }

module _ {ws old : List ℕ} {a b : ℕ} {mid : List ℕ} (p : Puts ws old a b mid) where
  -- what stands up to their end, and what behind it
  pub front_long : length (take a old ++ ws) ≡ b
  front_long = length-append (take a old) ws ∙ ap (λ (k : ℕ). k + length ws) (length-take-le a old (omega (arith, p.ends, p.fits))) ∙ sym p.ends

  pub puts-long : length mid ≡ length old
  puts-long = rw p.is (length-append (take a old ++ ws) (drop b old) ∙ ap (λ (k : ℕ). k + length (drop b old)) front_long ∙ simp length-drop (omega (arith, p.fits)))

  pub puts-front : take b mid ≡ take a old ++ ws
  puts-front = rw p.is (take_at (take a old ++ ws) (drop b old) b front_long)

  pub puts-rest : (c : ℕ) → b ≤ c → drop c mid ≡ drop c old
  puts-rest c h =
      let i : b + (c - b) ≡ c = omega arith in
      let e : drop b mid ≡ drop b old = rw p.is (drop_at (take a old ++ ws) (drop b old) b front_long) in
      ap (λ (j : ℕ). drop j mid) (sym i) ∙ sym (drop-drop (c - b) b mid) ∙ ap (drop (c - b)) e ∙ drop-drop (c - b) b old ∙ ap (λ (j : ℕ). drop j old) i

  -- one behind the other
  pub puts_then : {vs new : List ℕ} {c : ℕ} → Puts vs mid b c new → Puts (ws ++ vs) old a c new
  puts_then {vs} {new} {c} q =
      record {
        ends = simp length-append (omega (arith, p.ends, q.ends));
        fits = omega (arith, q.fits, puts-long);
        is =
            q.is
            ∙ ap (λ (l : List ℕ). l ++ vs ++ drop c mid) puts-front
            ∙ ap (λ (l : List ℕ). take a old ++ ws ++ vs ++ l) (puts-rest c (omega (arith, q.ends)))
            ∙ ap (λ (l : List ℕ). l ++ drop c old) (append_assoc (take a old) ws vs);
      }

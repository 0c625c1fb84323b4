-- Words repeated: copies that stand are moved behind themselves. Assumes nothing.
use mathlib.Core.Path.{◌≡◌, refl, ap, sym, ◌∙◌}
use mathlib.Core.List.{List, [], ◌++◌, append_assoc, append-nil}
use Prim.Native.Nat.{ℕ, zero, suc, min, ◌+◌, ◌*◌, ◌-◌, ◌^◌, ◌≤◌, ◌<◌}
use native.Mathlib.Omega.{arith}
use native.Mathlib.Nat.{mul-le-mul_left, mul-add, mul-one, mul-zero, zero-mul, mul-suc}
use lib.ListN.{length, take, drop, length-append, length-drop, take-append-drop}
use lib.Seq.{paste, paste-zero, length-paste, take_all, take-take, take-add, take_at, drop_at, drop-drop, length-take-le}
use mir.Syntax.{w64}
use mir.Val.{Fits}
use borrow.Author.Rules.{rules}
use Rattle.tree.specs.Words.{rept}

pub rept-end : (k : ℕ) (w : List ℕ) → rept k w ++ w ≡ w ++ rept k w
unfolding rept
rept-end zero w = sym (append-nil w)
rept-end (suc k) w = rw append_assoc (ap (λ (l : List ℕ). w ++ l) (rept-end k w))

pub rept-add : (i n : ℕ) (w : List ℕ) → rept i w ++ rept n w ≡ rept (i + n) w
unfolding rept
rept-add zero n w = let z : zero + n ≡ n = omega arith in rw z
rept-add (suc i) n w = let z : suc i + n ≡ suc (i + n) = omega arith in rw (z, append_assoc) (ap (λ (l : List ℕ). w ++ l) (rept-add i n w))

pub length-rept : (k : ℕ) (w : List ℕ) → length (rept k w) ≡ length w * k
unfolding rept
length-rept zero w = sym (mul-zero (length w))
length-rept (suc k) w = length-append w (rept k w) ∙ rw (length-rept k w, mul-suc) (omega arith)

module _ (old : List ℕ) (at count : ℕ) where
  abbrev run : List ℕ
  run = take count (drop at old)

  -- i of so many copies stand there, and all else is as it was
  pub record Repeating (times i : ℕ) (out : List ℕ) : Type 0 where
    pub some : 1 ≤ i
    pub untouched : times ≡ 0 → out ≡ old
    pub long : length out ≡ length old
    pub is : out ≡ paste old at (rept i run) (count * i)

  -- and so many are still to come
  pub record Going (times i left : ℕ) (out : List ℕ) : Type 0 where
    pub stand : Repeating times i out
    pub rest : left ≡ times - i
    pub few : 1 ≤ times → i ≤ times

pub repeat-empty : (old : List ℕ) (at times : ℕ) {count : ℕ} → count ≡ 0 → old ≡ paste old at (rept times (take count (drop at old))) (count * times)
repeat-empty old at times z = rw (z, zero-mul) (paste-zero old at (rept times []))

-- one copy stands there
pub repeat-first : (old : List ℕ) (at count times : ℕ) → Repeating old at count times 1 old
unfolding rept
repeat-first old at count times =
    let w : List ℕ = take count (drop at old) in
    let t : take count (take count (drop at old)) ≡ take count (drop at old) = take-take count count (drop at old) (omega arith) in
    record {
      some = omega arith;
      untouched = λ z. refl;
      long = refl;
      is = rw (mul-one, append-nil, t, ← take-add at count old) (sym (take-append-drop (at + count) old));
    }

module _ {old : List ℕ} {at count times i : ℕ} {out : List ℕ} (g : Repeating old at count times i out) where
  pub repeat-all : times ≤ i → (1 ≤ times → i ≤ times) → out ≡ paste old at (rept times (take count (drop at old))) (count * times)
  unfolding rept
  repeat-all h k = go times refl
    where
      go : (n : ℕ) → times ≡ n → out ≡ paste old at (rept n (take count (drop at old))) (count * n)
      go zero e = g.untouched e ∙ rw mul-zero (paste-zero old at [])
      go (suc n) e = let z : i ≡ suc n = omega arith in rw z at g.is

  module _ (m : at + count * times ≤ length old) {n : ℕ} (low : n ≤ i) (h : i + n ≤ times) where
    -- the words of the copies that stand, and of the next
    words-next : at + count * i + count * n ≤ at + count * times
    words-next = omega (arith, mul-le-mul_left count h, mul-add count i n)

    words-one : count ≤ count * i
    words-one = omega (arith, mul-le-mul_left count g.some, mul-one count)

    words-some : count * n ≤ count * i
    words-some = mul-le-mul_left count low

    pub run-room : at + count * n ≤ length out
    run-room = omega (arith, words-next, words-some, g.long)

    pub next-room : at + count * i + (at + count * n - at) ≤ length out
    next-room = omega (arith, words-next, g.long)

    module _ (l : length old < 2 ^ 64) where
      pub runs_fit : Fits w64 (count * n)
      runs_fit = record { fits = omega (arith, words-next) }

      pub run_fits : Fits w64 (at + count * n)
      run_fits = record { fits = omega (arith, words-next) }

      pub words_fits : Fits w64 (count * i)
      words_fits = record { fits = omega (arith, words-next) }

      pub next_fits : Fits w64 (at + count * i)
      next_fits = record { fits = omega (arith, words-next) }

    run_long : length (run old at count) ≡ count
    run_long = length-take-le count (drop at old) (simp length-drop (omega (arith, words-next, words-one)))

    reps-long : (k : ℕ) → length (rept k (run old at count)) ≡ count * k
    reps-long k = length-rept k (run old at count) ∙ ap (λ (c : ℕ). c * k) run_long

    abbrev to : ℕ
    to = at + count * i

    out-is : out ≡ (take at old ++ rept i (run old at count)) ++ drop to old
    out-is = g.is ∙ rw (take_all (count * i) (rept i (run old at count)) (omega (arith, reps-long i)))

    front_long : length (take at old ++ rept i (run old at count)) ≡ to
    front_long = length-append (take at old) (rept i (run old at count)) ∙ omega (arith, reps-long i, length-take-le at old (omega (arith, words-next)))

    -- the first of those that stand
    first_runs : (k : ℕ) → i ≡ n + k → (l : List ℕ) → take (count * n) (rept i (run old at count) ++ l) ≡ rept n (run old at count)
    first_runs k e l =
        rw (e, ← rept-add n k (run old at count), append_assoc)
        (take_at (rept n (run old at count)) (rept k (run old at count) ++ l) (count * n) (reps-long n))

    source_is : take (count * n) (drop at out) ≡ rept n (run old at count)
    source_is =
        ap (λ (l : List ℕ). take (count * n) (drop at l)) (out-is ∙ append_assoc (take at old) (rept i (run old at count)) (drop to old))
        ∙ ap (take (count * n)) (drop_at (take at old) (rept i (run old at count) ++ drop to old) at (length-take-le at old (omega (arith, words-next))))
        ∙ first_runs (i - n) (omega arith) (drop to old)

    target_is : {s : List ℕ} → s ≡ paste out to (drop at out) (count * n)
        → s ≡ ((take at old ++ rept i (run old at count)) ++ rept n (run old at count)) ++ drop (to + count * n) old
    target_is e =
        let a : take to out ≡ take at old ++ rept i (run old at count) = ap (take to) out-is ∙ take_at (take at old ++ rept i (run old at count)) (drop to old) to front_long in
        let b : drop (to + count * n) out ≡ drop (to + count * n) old =
        sym (drop-drop (count * n) to out) ∙ ap (drop (count * n)) (ap (drop to) out-is ∙ drop_at (take at old ++ rept i (run old at count)) (drop to old) to front_long)
        ∙ drop-drop (count * n) to old
        in
        e ∙ rw (a, b, source_is)

    pub repeat-more : {s : List ℕ} → s ≡ paste out (at + count * i) (drop at out) (at + count * n - at) → Repeating old at count times (i + n) s
    repeat-more {s} c =
        let z : at + count * n - at ≡ count * n = omega arith in
        let e : s ≡ paste out to (drop at out) (count * n) = rw z at c in
        let q : count * (i + n) ≡ count * i + count * n = mul-add count i n in
        let p : to + count * n ≡ at + count * (i + n) = omega arith in
        let r : length (rept (i + n) (run old at count)) ≡ count * (i + n) = reps-long (i + n) in
        record {
          some = omega (arith, g.some);
          untouched = λ (q : times ≡ 0). absurd (omega (arith, g.some));
          long = ap length e ∙ length-paste out to (drop at out) (count * n) (omega (arith, next-room)) (simp length-drop (omega (arith, words-next, words-some, g.long))) ∙ g.long;
          is =
              target_is e
              ∙ rw (append_assoc (take at old) (rept i (run old at count)) (rept n (run old at count)), rept-add i n (run old at count), p)
              (ap (λ (l : List ℕ). (take at old ++ l) ++ drop (at + count * (i + n)) old) (sym (take_all (count * (i + n)) (rept (i + n) (run old at count)) (omega (arith, r)))));
        }

-- ---- the loop
pub going-first : (old : List ℕ) (at count times : ℕ) → Going old at count times 1 (times - 1) old
going-first old at count times = record { stand = repeat-first old at count times; rest = refl; few = λ h. h }

module _ {old : List ℕ} {at count times i left : ℕ} {out : List ℕ} (g : Going old at count times i left out) where
  pub going-all : left ≡ 0 → out ≡ paste old at (rept times (take count (drop at old))) (count * times)
  going-all z = repeat-all g.stand (omega (arith, g.rest)) g.few

  module _ (p : 0 < left) {n : ℕ} (e : n ≡ min i left) where
    pub some-more : n ≤ i
    some-more = omega arith

    pub not-past : i + n ≤ times
    not-past = omega (arith, g.rest)

    pub is-less : left - n < left
    is-less = omega (arith, g.stand.some)

    pub going-more : at + count * times ≤ length old → {s : List ℕ} → s ≡ paste out (at + count * i) (drop at out) (at + count * n - at)
        → Going old at count times (i + n) (left - n) s
    going-more m c = record { stand = repeat-more g.stand m some-more not-past c; rest = omega (arith, g.rest); few = λ h. not-past }

pub ruleset repeats = (rules, repeat-empty, going-first, going-all, some-more, not-past, is-less, run-room, next-room, runs_fit, run_fits, words_fits, next_fits)

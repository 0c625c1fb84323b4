-- What a step adds to the sum of the steps behind it. Assumes nothing.
use Rattle.std.proofs.Common.{◌≡◌, ℕ, zero, suc, ◌+◌, ◌-◌, ◌%◌, ◌^◌, ◌<◌, ◌≤◌, Option, Some, None, Result, Ok, Err, arith, add-one}
use Rattle.vector_io.specs.Replay.{Sums, all, ended, failed, added}

left_one : {most k : ℕ} → k < most → most - k ≡ suc (most - suc k)
left_one h = omega arith

module _ {F E : Type 0} {step : F → ℕ → Result (Option ℕ) E → F → Type 0} {most k : ℕ} {f : F} {sum : ℕ} where
  pub sums-more : (next : F) (answer : Result (Option ℕ) E) (n after : ℕ) {result : Result ℕ E} → k < most → step f k answer next → answer ≡ Ok (Some n) → after ≡ (sum + n) % 2 ^ 64
      → Sums step (most - (k + 1)) (k + 1) next after result → Sums step (most - k) k f sum result
  sums-more next answer n after h s e a more =
      let p : step f k (Ok (Some n)) next = rw (← e) s in
      let q : Sums step (most - suc k) (suc k) next ((sum + n) % 2 ^ 64) _ = rw (← a, ← add-one k) more in
      rw (left_one h) (added p q)

  pub sums-none : (next : F) (answer : Result (Option ℕ) E) → k < most → step f k answer next → answer ≡ Ok None → Sums step (most - k) k f sum (Ok sum)
  sums-none next answer h s e = let p : step f k (Ok None) next = rw (← e) s in rw (left_one h) (ended p)

  pub sums-err : (next : F) (answer : Result (Option ℕ) E) (error : E) {result : Result ℕ E} → k < most → step f k answer next → answer ≡ Err error → result ≡ Err error
      → Sums step (most - k) k f sum result
  sums-err next answer error h s e r = let p : step f k (Err error) next = rw (← e) s in rw (left_one h, r) (failed p)

  pub sums-all : most ≤ k → Sums step (most - k) k f sum (Ok sum)
  sums-all h = let e : most - k ≡ zero = omega arith in rw e all

-- `Source::run_word` meets its contract. Assumes nothing.
use Prim.Native.Nat.{ℕ, ◌+◌, ◌*◌, ◌^◌, ◌≤◌}
use mathlib.Core.Path.{◌≡◌}
use native.Mathlib.Omega.{arith}
use Rattle.definition.specs.Layout.{record_words}
use Rattle.records.proofs.Starting.{words_of, word-there}
use Rattle.records.proofs.source.Source.run_word.Goals as goal

-- how far into its section the record stands
near : {size : ℕ} (number section : ℕ) → size ≡ record_words section → number ≤ 2 ^ 33 → number * size ≤ 2 ^ 33 * 11
near number section e h = rw e (words_of (2 ^ 33) number section h)

pub overflow_mul-number : goal.overflow_mul-number
overflow_mul-number c = omega (arith, near (c.args.first + c.args.j) c.args.section c.record_words.ensures (omega arith))

pub overflow_add-at-2 : goal.overflow_add-at-2
overflow_add-at-2 c =
    omega
    (arith, c.start-at.ensures.near, near (c.args.first + c.args.j) c.args.section c.record_words.ensures (omega arith))

pub overflow_add-at-3 : goal.overflow_add-at-3
overflow_add-at-3 c =
    omega
    (arith, c.start-at.ensures.near, near (c.args.first + c.args.j) c.args.section c.record_words.ensures (omega arith))

pub returns : goal.returns
returns c =
    word-there _ c.args.section c.start-at.ensures.is (c.args.first + c.args.j) c.args.place c.record_words.result c.record_words.ensures
    (rw c.self.view_is at c.word_at.ensures)

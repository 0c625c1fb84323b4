-- `words::section_end` meets its contract. Assumes nothing.
use Prim.Native.Nat.{ℕ, ◌*◌, ◌^◌, ◌≤◌}
use mathlib.Core.Path.{◌≡◌}
use native.Mathlib.Omega.{arith}
use Rattle.definition.specs.Layout.{behind, record_words}
use Rattle.records.proofs.Starting.{words_of}
use Rattle.records.proofs.words.section_end.Goals as goal

-- what the records of the section take
taken : {size : ℕ} (many section : ℕ) → size ≡ record_words section → many ≤ 2 ^ 32 → many * size ≤ 2 ^ 32 * 11
taken many section e h = rw e (words_of (2 ^ 32) many section h)

pub overflow_mul-result : goal.overflow_mul-result
overflow_mul-result c = omega (arith, taken c.word_at.result c.args.section c.record_words.ensures (omega arith))

pub overflow_add-result-2 : goal.overflow_add-result-2
overflow_add-result-2 c = omega (arith, taken c.word_at.result c.args.section c.record_words.ensures (omega arith))

pub returns : goal.returns
unfolding behind
returns c = record { is = cc; near = omega (arith, taken c.word_at.result c.args.section c.record_words.ensures (omega arith)) }

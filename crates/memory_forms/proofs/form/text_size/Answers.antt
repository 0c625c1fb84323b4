-- `form::text_size` meets its contract. Assumes nothing.
use native.Mathlib.Omega.{arith}
use Rattle.memory_forms.proofs.Forming.{text-small}
use Rattle.memory_forms.proofs.form.text_size.Goals as goal

pub overflow_mul-result : goal.overflow_mul-result
overflow_mul-result c = omega (arith, text-small c.character_size.result c.args.many (omega arith) (omega arith))

pub returns : goal.returns
returns c = record { is = cc; small = text-small c.character_size.result c.args.many (omega arith) (omega arith) }

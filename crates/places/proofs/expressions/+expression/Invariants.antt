-- `expressions::expression` meets its contract: the expression in parentheses has a lower number. Assumes nothing.
use Rattle.places.proofs.expressions.+expression.Given as goal

abbrev pub decreases-expression : goal.decreases-expression
decreases-expression l = l.x

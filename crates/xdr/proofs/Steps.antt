-- The law by which a reader's proof goes from item to item.
use mathlib.Core.Path.{◌≡◌, sym, ap, ◌∙◌}

-- once the result's case is known, the definition is what that case says
pub by_case : {R X : Type 0} (says : R → X) {r r' : R} {x : X} → says r ≡ x → r ≡ r' → x ≡ says r'
by_case says h g = sym h ∙ ap says g

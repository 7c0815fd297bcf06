-- The greatest of the numbers by `max`.
use Rattle.std.proofs.Common.{ℕ, List, [], ◌∷◌, ◌≡◌, ◌∙◌, refl, sym, ap, arith, max}
use Rattle.std.specs.List.{fold, reduce}
use Rattle.std.specs.Option.{unwrap_or, option_map}
use Rattle.std.proofs.lemmas.Iterator.Adapters.{option_map_id}
use Rattle.std.proofs.lemmas.Iterator.{YieldsList-from_slice}
use Rattle.std.proofs.lemmas.Iterator.Consumers.{YieldsList-from_copied, max_from_yields_List}
use Rattle.definitions.specs.Lists.{greatest}
use Rattle.forests.proofs.marks.highest.Goals as goal

folded : (best : ℕ) (l : List ℕ) → fold max best l ≡ max best (greatest l)
unfolding greatest
folded best [] = omega arith
folded best (x ∷ l) = omega (arith, folded (max best x) l)

greatest-of : (l : List ℕ) → unwrap_or (reduce max l) 0 ≡ greatest l
unfolding greatest
greatest-of [] = refl
greatest-of (x ∷ l) = folded x l

pub returns : goal.returns
returns c =
    let most : option_map (λ (x : ℕ). x) c.max.result ≡ reduce max c.args.forests.now =
    max_from_yields_List c.copied.result c.max.result c.max.ensures.ran (YieldsList-from_copied (YieldsList-from_slice c.args.forests.now cc)) in
    c.unwrap_or.ensures ∙ ap (λ o. unwrap_or o 0) (sym (option_map_id c.max.result) ∙ most) ∙ greatest-of c.args.forests.now

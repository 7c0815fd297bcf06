-- The answers of the functions that read the form, case by case as the definitions' `Scan` or outcome. Assumes nothing.
use Rattle.std.specs.Prelude.{ℕ, List, [], ◌∷◌, Result, Ok, Err}
use Rattle.definitions.specs.Outcome.{Outcome, refused, done}
use Rattle.definitions.specs.Form.{Scan, departs, reads}
use Rattle.text.specs.declared.scan.Departure.{Departure}
use Rattle.routes.specs.declared.Wish.{Wish}
use Rattle.verify.specs.declared.form.Form.{Form}

abbrev pub wish_says : Wish → List ℕ
wish_says wish = wish.from.0 ∷ wish.to.0 ∷ wish.k ∷ []

abbrev pub head_gives : Result (Wish × ℕ) Departure → Scan
head_gives (Ok read) = reads (wish_says read.0) read.1
head_gives (Err departure) = departs departure.0

-- What a text of the form says: from, to and k, how many routes, `kept`, and the offset of the first route.
abbrev pub form_says : Form → Outcome (List ℕ)
form_says form =
    done (form.wish.from.0 ∷ form.wish.to.0 ∷ form.wish.k ∷ form.routes ∷ form.kept ∷ form.first ∷ [])

abbrev pub form_gives : Result Form Departure → Outcome (List ℕ)
form_gives (Ok form) = form_says form
form_gives (Err departure) = refused 14 departure.0

-- Drawings put together line by line, as a text is read: what holds of the text from an offset on and of the rest of a drawing, for any
-- `Holds` that a part in front of it keeps. Assumes nothing.
use Rattle.std.specs.Prelude.{ℕ, suc, ◌<◌, List, [], ◌∷◌, ◌++◌, ◌≡◌, refl, length}
use Rattle.std.proofs.Common.{ap}
use Rattle.definitions.specs.Dimacs.{problem_form, edge_form}
use Rattle.definitions.specs.DimacsText.{
  Comment,
  EdgeLine,
  Drawing,
  comment_lines,
  edge_lines,
  dimacs_text,
  CommentsFit,
  EdgesFit,
  DrawingFits,
}
use Rattle.lists.specs.Parts.{Part}
use Rattle.text_theory.specs.DimacsLines.{noted}
use Rattle.text_theory.specs.DimacsRoundTrip.{edges_and_last, edge-then, problem-then}

-- What holds from `at` on holds from p on too, with the part that stands between them.
abbrev pub KeptInFront : (text : List ℕ) (Holds : ℕ → List ℕ → Type 0) → Type 0
KeptInFront text Holds = (p at : ℕ) (first rest : List ℕ) → Part text p first at → Holds at rest → Holds p (first ++ rest)

-- The rest of a drawing, behind its `p` line or an `e` line, with `count` lines to come.
pub record Rest (Holds : ℕ → List ℕ → Type 0) (p count : ℕ) : Type 0 where
  pub edges : List EdgeLine
  pub last : List Comment
  pub many : length edges ≡ count
  pub fits : EdgesFit edges
  pub last_fits : CommentsFit last
  pub holds : Holds p (edges_and_last edges last)

-- No lines to come.
pub no-more : (Holds : ℕ → List ℕ → Type 0) (p : ℕ) (last : List Comment) → CommentsFit last → Holds p (comment_lines last)
    → Rest Holds p 0
unfolding edge_lines
no-more Holds p last fits holds = record { edges = []; last = last; many = refl; fits = tt; last_fits = fits; holds = holds }

-- A line, and behind it the others.
pub one_more : (text : List ℕ) (Holds : ℕ → List ℕ → Type 0) (notes : List Comment) (u v p at count : ℕ) → KeptInFront text Holds
    → CommentsFit notes → u < 10000 → v < 10000 → Part text p (noted notes edge_form u v) at → Rest Holds at count
    → Rest Holds p (suc count)
one_more text Holds notes u v p at count kept fits small_u small_v part rest =
    let edge : EdgeLine = record { notes = notes; u = u; v = v } in
    record {
      edges = edge ∷ rest.edges;
      last = rest.last;
      many = ap suc rest.many;
      fits = (fits, small_u, small_v, rest.fits);
      last_fits = rest.last_fits;
      holds = rw (edge-then edge rest.edges rest.last)
          (kept p at (noted notes edge_form u v) (edges_and_last rest.edges rest.last) part rest.holds);
    }

-- The `p` line, and behind it the rest.
pub whole-drawing : (text : List ℕ) (Holds : ℕ → List ℕ → Type 0) (notes : List Comment) (n m p : ℕ) → KeptInFront text Holds
    → CommentsFit notes → n < 10000 → m < 10000 → Part text 0 (noted notes problem_form n m) p → Rest Holds p m
    → (drawing : Drawing) × DrawingFits drawing × Holds 0 (dimacs_text drawing)
whole-drawing text Holds notes n m p kept fits small_n small_m part rest =
    let drawing : Drawing = record { relays = n; notes = notes; edges = rest.edges; last = rest.last } in (
      drawing,
      record {
        notes = fits;
        relays = small_n;
        links = rw rest.many small_m;
        edges = rest.fits;
        last = rest.last_fits;
      },
      rw (problem-then drawing, rest.many)
          (kept 0 p (noted notes problem_form n m) (edges_and_last rest.edges rest.last) part rest.holds),
    )

-- The texts of the DIMACS edge format (document 02, #106), written from what they say. No operation writes one: the promises of the
-- import speak of them. Assumes nothing.
use Rattle.std.specs.Prelude.{ℕ, ◌+◌, ◌≤◌, ◌<◌, false, List, [], ◌∷◌, ◌++◌, ◌⊎◌, ◌≡◌, ltb, length, replicate}
use Rattle.definitions.specs.Outcome.{Outcome, done, refuse_if}
use Rattle.definitions.specs.Lists.{has}
use Rattle.definitions.specs.Form.{bytes, write_form}
use Rattle.definitions.specs.Text.{Network, sized}
use Rattle.definitions.specs.Dimacs.{problem_form, edge_form, low_end, high_end, edge_fault}

-- "A comment line is `c` alone, or `c`, a space and any or no bytes other than 10."
pub data Comment : Type 0 where
  alone : Comment
  saying : List ℕ → Comment

-- A line `e U V`, with the comment lines in front of it.
pub record EdgeLine : Type 0 where
  pub notes : List Comment
  pub u : ℕ
  pub v : ℕ

-- A drawing: N, the comment lines in front of the `p` line, the `e` lines, and the comment lines behind the last of them.
pub record Drawing : Type 0 where
  pub relays : ℕ
  pub notes : List Comment
  pub edges : List EdgeLine
  pub last : List Comment

unfoldable pub comment_line : (comment : Comment) → List ℕ
comment_line alone = bytes "c\n"
comment_line (saying words) = bytes "c " ++ (words ++ bytes "\n")

unfoldable pub comment_lines : (comments : List Comment) → List ℕ
comment_lines [] = []
comment_lines (comment ∷ comments) = comment_line comment ++ comment_lines comments

unfoldable pub edge_lines : (edges : List EdgeLine) → List ℕ
edge_lines [] = []
edge_lines (edge ∷ edges) =
    comment_lines edge.notes ++ (write_form edge_form (edge.u ∷ edge.v ∷ []) ++ edge_lines edges)

-- The text of a drawing: "`c` comment lines anywhere, one `p edge N M`, then M lines `e U V`".
unfoldable pub dimacs_text : (drawing : Drawing) → List ℕ
dimacs_text drawing =
    comment_lines drawing.notes ++
    (write_form problem_form (drawing.relays ∷ length drawing.edges ∷ []) ++
    (edge_lines drawing.edges ++ comment_lines drawing.last))

-- What can be written so: comments of "bytes other than 10", and numbers of at most four digits.
abbrev pub CommentsFit : (comments : List Comment) → Type 0
CommentsFit [] = Unit {0}
CommentsFit (alone ∷ comments) = CommentsFit comments
CommentsFit (saying words ∷ comments) = (has words 10 ≡ false) × CommentsFit comments

abbrev pub EdgesFit : (edges : List EdgeLine) → Type 0
EdgesFit [] = Unit {0}
EdgesFit (edge ∷ edges) = CommentsFit edge.notes × (edge.u < 10000) × (edge.v < 10000) × EdgesFit edges

pub record DrawingFits (drawing : Drawing) : Type 0 where
  pub notes : CommentsFit drawing.notes
  pub relays : drawing.relays < 10000
  pub links : length drawing.edges < 10000
  pub edges : EdgesFit drawing.edges
  pub last : CommentsFit drawing.last

-- What the numbers of a drawing decide, without its comments: the refusals of its edges behind the links before them, or its network.
unfoldable pub judged_edges : (n : ℕ) (lows highs : List ℕ) (edges : List EdgeLine) → Outcome Network
judged_edges n lows highs [] = done (record { relays = n; lows = lows; highs = highs; states = replicate n 1 })
judged_edges n lows highs (edge ∷ edges) =
    let fault = edge_fault n lows highs edge.u edge.v in
    refuse_if (ltb 0 fault) fault (length lows)
    (judged_edges n (lows ++ (low_end edge.u edge.v ∷ [])) (highs ++ (high_end edge.u edge.v ∷ [])) edges)

unfoldable pub judged : (drawing : Drawing) (room_lows room_highs room_states : ℕ) → Outcome Network
judged drawing room_lows room_highs room_states =
    let n = drawing.relays in
    sized n (length drawing.edges) room_lows room_highs room_states (judged_edges n [] [] drawing.edges)

-- The lines that stand whole at the front of a text, whatever comes after them: the comment lines before the `p` line, its N and M, and
-- the first `e` lines.
pub record Front : Type 0 where
  pub notes : List Comment
  pub relays : ℕ
  pub links : ℕ
  pub edges : List EdgeLine

unfoldable pub front_text : (front : Front) → List ℕ
front_text front =
    comment_lines front.notes ++ (write_form problem_form (front.relays ∷ front.links ∷ []) ++ edge_lines front.edges)

pub record FrontFits (front : Front) : Type 0 where
  pub notes : CommentsFit front.notes
  pub relays : front.relays < 10000
  pub links : front.links < 10000
  pub edges : EdgesFit front.edges
  pub few : length front.edges ≤ front.links

-- What the numbers of these lines decide: "3, 4 and 8 after the `p` line, and after each `e` line 5 .. 6 .. and 7".
unfoldable pub judged_front : (front : Front) (room_lows room_highs room_states : ℕ) → Outcome Network
judged_front front room_lows room_highs room_states =
    sized front.relays front.links room_lows room_highs room_states (judged_edges front.relays [] [] front.edges)

-- "relays from 1", and "Ends may come in either order": a line `e U V` is the link a b.
abbrev pub DrawsLink : (u v a b : ℕ) → Type 0
DrawsLink u v a b = ((u ≡ a + 1) × (v ≡ b + 1)) ⊎ ((u ≡ b + 1) × (v ≡ a + 1))

-- The edges are these links in turn.
abbrev pub Draws : (edges : List EdgeLine) (lows highs : List ℕ) → Type 0
Draws [] [] [] = Unit {0}
Draws [] [] (b ∷ highs) = ⊥
Draws [] (a ∷ lows) highs = ⊥
Draws (edge ∷ edges) [] highs = ⊥
Draws (edge ∷ edges) (a ∷ lows) [] = ⊥
Draws (edge ∷ edges) (a ∷ lows) (b ∷ highs) = DrawsLink edge.u edge.v a b × Draws edges lows highs

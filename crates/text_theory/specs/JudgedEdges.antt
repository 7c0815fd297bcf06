-- What the numbers of a drawing decide: its network where each `e` line draws a link without fault, behind those before it. No text is
-- read here. Assumes nothing.
use Rattle.std.specs.Prelude.{ℕ, suc, List, [], ◌∷◌, ◌++◌, ◌≡◌, refl, ltb, length, replicate}
use Rattle.std.proofs.Common.{append-nil, ap, arith, ltb-false}
use Rattle.std.proofs.Math.Seq.{append_snoc}
use Rattle.definitions.specs.Outcome.{refused, done, refuse_if}
use Rattle.definitions.specs.Text.{Network}
use Rattle.definitions.specs.Dimacs.{low_end, high_end, edge_fault}
use Rattle.definitions.specs.DimacsText.{EdgeLine, judged_edges, Draws}
use Rattle.lists.specs.Outcomes.{not-refused, refused-later}
use Rattle.text_theory.specs.LinkByLink.{Faultless}
use Rattle.text_theory.specs.EdgeFaults.{edge-link, link-edge, fault-not-eighteen}

-- The network of the links read so far and those to come, all in service.
abbrev pub drawn : (n : ℕ) (lows highs ls hs : List ℕ) → Network
drawn n lows highs ls hs = record { relays = n; lows = lows ++ ls; highs = highs ++ hs; states = replicate n 1 }

-- The links of edges that were judged good.
pub record Judged (n : ℕ) (lows highs : List ℕ) (edges : List EdgeLine) (network : Network) : Type 0 where
  pub ls : List ℕ
  pub hs : List ℕ
  pub many : length ls ≡ length edges
  pub even : length ls ≡ length hs
  pub result : network ≡ drawn n lows highs ls hs
  pub good : Faultless n lows highs ls hs
  pub draws : Draws edges ls hs

pub judged-good : (edges : List EdgeLine) (n : ℕ) (lows highs : List ℕ) (network : Network)
    → judged_edges n lows highs edges ≡ done network → Judged n lows highs edges network
unfolding judged_edges
judged-good [] n lows highs network e =
    record {
      ls = [];
      hs = [];
      many = refl;
      even = refl;
      result = rw (append-nil lows, append-nil highs) (cc e);
      good = tt;
      draws = tt;
    }
judged-good (edge ∷ edges) n lows highs network e =
    let a = low_end edge.u edge.v in
    let b = high_end edge.u edge.v in
    let fault = edge_fault n lows highs edge.u edge.v in
    let step = not-refused (ltb 0 fault) fault (length lows) (judged_edges n (lows ++ (a ∷ [])) (highs ++ (b ∷ [])) edges) network e in
    let none : fault ≡ 0 = omega (arith, ltb-false 0 fault step.0) in
    let link = edge-link n lows highs edge.u edge.v none in
    let rest = judged-good edges n (lows ++ (a ∷ [])) (highs ++ (b ∷ [])) network step.1 in
    record {
      ls = a ∷ rest.ls;
      hs = b ∷ rest.hs;
      many = ap suc rest.many;
      even = ap suc rest.even;
      result = rw (append_snoc lows a rest.ls, append_snoc highs b rest.hs) at rest.result;
      good = (link.0, rest.good);
      draws = (link.1, rest.draws);
    }

-- Edges that draw links without fault are judged good, and give those links.
pub good-judged : (edges : List EdgeLine) (ls hs : List ℕ) (n : ℕ) (lows highs : List ℕ) → Draws edges ls hs
    → Faultless n lows highs ls hs → judged_edges n lows highs edges ≡ done (drawn n lows highs ls hs)
unfolding judged_edges refuse_if
good-judged [] [] [] n lows highs draws good = rw (append-nil lows, append-nil highs)
good-judged [] [] (b ∷ hs) n lows highs draws good = absurd draws
good-judged [] (a ∷ ls) hs n lows highs draws good = absurd draws
good-judged (edge ∷ edges) [] hs n lows highs draws good = absurd draws
good-judged (edge ∷ edges) (a ∷ ls) [] n lows highs draws good = absurd draws
good-judged (edge ∷ edges) (a ∷ ls) (b ∷ hs) n lows highs draws good =
    let line = link-edge n lows highs edge.u edge.v a b good.0 draws.0 in
    let rest = good-judged edges ls hs n (lows ++ (a ∷ [])) (highs ++ (b ∷ [])) draws.1 good.1 in
    rw (line.0, line.1, line.2) (rw (append_snoc lows a ls, append_snoc highs b hs) at rest)

pub draws-many : (edges : List EdgeLine) (ls hs : List ℕ) → Draws edges ls hs → length edges ≡ length ls
draws-many [] [] [] draws = refl
draws-many [] [] (b ∷ hs) draws = absurd draws
draws-many [] (a ∷ ls) hs draws = absurd draws
draws-many (edge ∷ edges) [] hs draws = absurd draws
draws-many (edge ∷ edges) (a ∷ ls) [] draws = absurd draws
draws-many (edge ∷ edges) (a ∷ ls) (b ∷ hs) draws = ap suc (draws-many edges ls hs draws.1)

-- No edge is refused with 18.
pub judged-not-eighteen : (edges : List EdgeLine) (n : ℕ) (lows highs : List ℕ) (q : ℕ)
    → judged_edges n lows highs edges ≡ refused 18 q → ⊥
unfolding judged_edges
judged-not-eighteen [] n lows highs q e = let z : ◌≡◌ {A = ℕ} 0 1 = cc in omega arith
judged-not-eighteen (edge ∷ edges) n lows highs q e =
    let a = low_end edge.u edge.v in
    let b = high_end edge.u edge.v in
    let fault = edge_fault n lows highs edge.u edge.v in
    let rest = judged_edges n (lows ++ (a ∷ [])) (highs ++ (b ∷ [])) edges in
    judged-not-eighteen edges n (lows ++ (a ∷ [])) (highs ++ (b ∷ [])) q
    (refused-later (ltb 0 fault) fault (length lows) rest 18 q e (fault-not-eighteen n lows highs edge.u edge.v)).1

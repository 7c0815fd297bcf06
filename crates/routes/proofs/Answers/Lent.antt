-- Route without a list of links and with one, from the core that serves both: without, the 12 is Route's own; with one that is
-- long enough, all the links are written.
use Prim.Native.Nat.{ℕ, ◌+◌, ◌-◌}
use mathlib.Core.Bool.{Bool}
use mathlib.Core.List.{List, [], ◌∷◌, map}
use Rattle.std.specs.Prelude.{Some, None}
use mathlib.Core.Path.{◌≡◌, refl, ◌∙◌, ap}
use native.Mathlib.Omega.{arith}
use lib.Dec.{ltb}
use lib.ListN.{length}
use lib.Seq.{sets}
use borrow.Author.Tests.{ltb-false}
use Rattle.definitions.specs.Outcome.{Answer, refused, done, pick, and_then, if_done}
use Rattle.definitions.specs.Lists.{overwrite, zeroed, join_all, total}
use Rattle.definitions.specs.Forests.{marks_of}
use Rattle.definitions.specs.Route.{too_short, routes_of, route_unless, route_answer, counts_after, route_relays_after, scratch_used, scratch_after}
use Rattle.definitions.specs.Over.{overs_of, links_too_short, route_links_answer, route_links_counts, route_links_relays, route_links_links, route_links_scratch}
use Rattle.lists.specs.Stores.{sets-overwrite}
use Rattle.lists.specs.Tests.{or-false, or-none}
use Rattle.theory.specs.RoutePassed.{unless-passed}
use Rattle.theory.proofs.OverLinks.{overs-fit}
use Rattle.routes.specs.Answers.{short_for, core_answer, core_counts, core_relays, core_links, core_scratch, counted_answer}
use Rattle.routes.proofs.Answers.Refusals.{Promised}

module _ (n : ℕ) (lows highs states : List ℕ) (k from to : ℕ) (counts relays scratch : List ℕ) where
  -- Where no list is asked for.
  module _ (links : List ℕ) where
    short-alone : short_for None n k counts relays scratch ≡ too_short n k counts relays scratch
    unfolding short_for
    short-alone = or-none (too_short n k counts relays scratch)

    pub alone-answer : core_answer None n lows highs states k from to counts relays links scratch ≡ route_answer n lows highs states k from to counts relays scratch
    unfolding core_answer route_answer
    alone-answer = ap (λ (b : Bool). route_unless b n lows highs states k from to) short-alone

    pub alone-counts : core_counts None n lows highs states k from to counts relays links scratch ≡ counts_after n lows highs states k from to counts relays scratch
    unfolding core_counts counts_after
    alone-counts =
        ap (λ (x : Answer). if_done x (overwrite (map length (routes_of n lows highs states k from to)) counts) counts) alone-answer

    pub alone-relays : core_relays None n lows highs states k from to counts relays links scratch ≡ route_relays_after n lows highs states k from to counts relays scratch
    unfolding core_relays route_relays_after
    alone-relays = ap (λ (x : Answer). if_done x (overwrite (join_all (routes_of n lows highs states k from to)) relays) relays) alone-answer

    pub alone-scratch : core_scratch None n lows highs states k from to counts relays links scratch ≡ scratch_after n lows highs states k from to counts relays scratch
    unfolding core_scratch scratch_after
    alone-scratch = ap (λ (x : Answer). pick (scratch_used x) (zeroed scratch) scratch) alone-answer

    pub alone : (answer : Answer) (counts' relays' links' scratch' : List ℕ)
        → Promised None n lows highs states k from to counts relays links scratch answer counts' relays' links' scratch'
        → (answer ≡ route_answer n lows highs states k from to counts relays scratch)
        × ((counts' ≡ counts_after n lows highs states k from to counts relays scratch)
        × ((relays' ≡ route_relays_after n lows highs states k from to counts relays scratch)
        × (scratch' ≡ scratch_after n lows highs states k from to counts relays scratch)))
    alone answer counts' relays' links' scratch' (whole, (c, (r, (l, s)))) =
        (whole ∙ alone-answer, (c ∙ alone-counts, (r ∙ alone-relays, s ∙ alone-scratch)))

  -- Where one is.
  module _ (links : List ℕ) where
    pub lent-answer : core_answer (Some (length links)) n lows highs states k from to counts relays links scratch ≡ route_links_answer n lows highs states k from to counts relays links scratch
    unfolding core_answer route_links_answer short_for links_too_short
    lent-answer = refl

    pub lent-counts : core_counts (Some (length links)) n lows highs states k from to counts relays links scratch ≡ route_links_counts n lows highs states k from to counts relays links scratch
    unfolding core_counts route_links_counts
    lent-counts =
        ap (λ (x : Answer). if_done x (overwrite (map length (routes_of n lows highs states k from to)) counts) counts) lent-answer

    pub lent-relays : core_relays (Some (length links)) n lows highs states k from to counts relays links scratch ≡ route_links_relays n lows highs states k from to counts relays links scratch
    unfolding core_relays route_links_relays
    lent-relays = ap (λ (x : Answer). if_done x (overwrite (join_all (routes_of n lows highs states k from to)) relays) relays) lent-answer

    pub lent-links : core_links (Some (length links)) n lows highs states k from to counts relays links scratch ≡ route_links_links n lows highs states k from to counts relays links scratch
    unfolding core_links route_links_links route_links_answer links_too_short if_done
    lent-links = rw lent-answer (go (route_links_answer n lows highs states k from to counts relays links scratch) refl)
      where
        overs : List ℕ
        overs = join_all (overs_of n lows highs states k from to)

        fits : (values : List ℕ) → route_links_answer n lows highs states k from to counts relays links scratch ≡ done values
            → sets links 0 overs ≡ overwrite overs links
        fits values e =
            let passed = unless-passed (links_too_short n k counts relays links scratch) n lows highs states k from to values e in
            let p = passed.1 in
            let room = (or-false (too_short n k counts relays scratch) (ltb (length links) (n - 2 + k)) passed.0).1 in
            sets-overwrite overs links
            (omega (
              arith,
              overs-fit n lows highs states p.accepted k p.some from to p.starts p.ends p.differ p.one_tree,
              ltb-false (length links) (n - 2 + k) room,
            ))

        go : (answer : Answer) → route_links_answer n lows highs states k from to counts relays links scratch ≡ answer
            → if_done answer (sets links 0 overs) links ≡ if_done answer (overwrite overs links) links
        go (refused number place) e = refl
        go (done values) e = fits values e

    pub lent-scratch : core_scratch (Some (length links)) n lows highs states k from to counts relays links scratch ≡ route_links_scratch n lows highs states k from to counts relays links scratch
    unfolding core_scratch route_links_scratch
    lent-scratch = ap (λ (x : Answer). pick (scratch_used x) (zeroed scratch) scratch) lent-answer

    pub lent : (answer : Answer) (counts' relays' links' scratch' : List ℕ)
        → Promised (Some (length links)) n lows highs states k from to counts relays links scratch answer counts' relays' links' scratch'
        → (answer ≡ route_links_answer n lows highs states k from to counts relays links scratch)
        × ((counts' ≡ route_links_counts n lows highs states k from to counts relays links scratch)
        × ((relays' ≡ route_links_relays n lows highs states k from to counts relays links scratch)
        × ((links' ≡ route_links_links n lows highs states k from to counts relays links scratch)
        × (scratch' ≡ route_links_scratch n lows highs states k from to counts relays links scratch))))
    lent answer counts' relays' links' scratch' (whole, (c, (r, (l, s)))) =
        (whole ∙ lent-answer, (c ∙ lent-counts, (r ∙ lent-relays, (l ∙ lent-links, s ∙ lent-scratch))))

    -- The same with the count of kept links as the answer.
    pub counted-links : (answer counted : Answer) (counts' relays' links' scratch' : List ℕ)
        → Promised (Some (length links)) n lows highs states k from to counts relays links scratch answer counts' relays' links' scratch'
        → counted ≡ and_then answer (λ _. done (total (marks_of n lows highs states k) ∷ []))
        → (counted ≡ counted_answer n lows highs states k from to counts relays links scratch)
        × ((counts' ≡ route_links_counts n lows highs states k from to counts relays links scratch)
        × ((relays' ≡ route_links_relays n lows highs states k from to counts relays links scratch)
        × ((links' ≡ route_links_links n lows highs states k from to counts relays links scratch)
        × (scratch' ≡ route_links_scratch n lows highs states k from to counts relays links scratch))))
    unfolding counted_answer
    counted-links answer counted counts' relays' links' scratch' promised e =
        let both = lent answer counts' relays' links' scratch' promised in
        (e ∙ ap (λ (x : Answer). and_then x (λ _. done (total (marks_of n lows highs states k) ∷ []))) both.0, both.1)

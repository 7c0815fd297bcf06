-- A report line part by part, as code reads it: each part may depart, and the numbers seen stand behind the word `(sees`. Assumes nothing.
use Rattle.std.specs.Prelude.{ℕ, ◌≡◌, length}
use mathlib.Core.List.{List, [], ◌∷◌, append-nil}
use Rattle.definitions.specs.Form.{bytes, departs, reads, scan_word, with_front, following, scan_more, scan_form}
use Rattle.definitions.specs.Reports.{report_front, scan_serial, scan_report}
use Rattle.text_theory.specs.SpacedNumbers.{numbers_at, more_numbers}

module _ (text : List ℕ) (p : ℕ) where
  pub front-departs : (w : ℕ) → scan_form text report_front p ≡ departs w → scan_report text p ≡ departs w
  unfolding scan_report following
  front-departs w e = rw e

  module _ (relay s : ℕ) (front : scan_form text report_front p ≡ reads (relay ∷ []) s) where
    pub serial-departs : (w : ℕ) → scan_serial text s ≡ departs w → scan_report text p ≡ departs w
    unfolding scan_report following with_front
    serial-departs w e = rw (front, e)

    module _ (serial u : ℕ) (number : scan_serial text s ≡ reads (serial ∷ []) u) where
      pub name-departs : (w : ℕ) → scan_word text (bytes " (sees") u ≡ departs w → scan_report text p ≡ departs w
      unfolding scan_report following with_front
      name-departs w e = rw (front, number, e)

      module _ (t : ℕ) (name : scan_word text (bytes " (sees") u ≡ reads [] t) where
        pub seen-departs : (w : ℕ) → scan_more text t (length text) ≡ departs w → scan_report text p ≡ departs w
        unfolding scan_report following with_front
        seen-departs w e = rw (front, number, name, e)

        module _ (sees : List ℕ) (v : ℕ) (seen : scan_more text t (length text) ≡ reads sees v) where
          pub end-departs : (w : ℕ) → scan_word text (bytes "))\n") v ≡ departs w → scan_report text p ≡ departs w
          unfolding scan_report following with_front
          end-departs w e = rw (front, number, name, seen, e)

          pub report-reads : (q : ℕ) → scan_word text (bytes "))\n") v ≡ reads [] q → scan_report text p ≡ reads (relay ∷ serial ∷ sees) q
          unfolding scan_report following with_front
          report-reads q e = rw (front, number, name, seen, e, append-nil sees)

          -- Those seen are read again, one by one, from the offset behind the word.
          pub seen-again : numbers_at text t (length text) ≡ sees
          seen-again = more_numbers text (length text) t sees v seen

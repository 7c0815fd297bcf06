-- One link checked against the marks of the links before it, and the marks afterwards: what `check_link` promises, and
-- what that is for a table. The marks are bits by pair number. Assumes nothing.
use Rattle.std.specs.Prelude.{ℕ, ⊤, Result, Ok, Err, ◌+◌, ◌*◌, ◌≤◌, ◌<◌, Bool, true, false, ◌||◌, List, [], ◌∷◌, ◌++◌, ◌≡◌, refl, eqb, leb, ltb, length, get_or, replicate}
use Rattle.std.proofs.Common.{sym, ◌∙◌, ap, arith, leb-false, length-append}
use Rattle.std.proofs.lemmas.List.{length-replicate}
use Rattle.std.proofs.Math.ListN.{get_or-append}
use Rattle.std.proofs.Math.Seq.{get_or-append_seam}
use Rattle.definitions.specs.Outcome.{pick, refused}
use Rattle.network.specs.Answers.{refusal_of}
use Rattle.definitions.specs.Lists.{some_below}
use Rattle.definitions.specs.Network.{row_start, pair_number, is_pair, link_fault}
use Rattle.lists.specs.Bitmap.{marked, mark, marked-mark, marked-none, length-mark}
use Rattle.network.specs.Pairs.{pair-below, rows-of-32, rows-of-128, rows-of-512, rows-of-1000}
use Rattle.network.specs.Marks.{Marks, marks-none, marks-next, marks-front}
use Rattle.network.specs.declared.LinkFault.{LinkFault}
use Rattle.network.specs.declared.LinkFault.TheVariants.{RelayRange, NotBelow, Repeated}
use Rattle.network.specs.declared.refusal.Refusal.{Refusal}

-- The refusal's number, 0 for none.
abbrev pub fault_of : Result ⊤ LinkFault → ℕ
fault_of (Ok _) = 0
fault_of (Err RelayRange) = 5
fault_of (Err NotBelow) = 6
fault_of (Err Repeated) = 7

-- What is wrong with the link a b where `at` tells which pairs were seen before, or 0.
unfoldable pub fault_at : (n : ℕ) (at : ℕ → Bool) (a b : ℕ) → ℕ
fault_at n at a b = pick (leb n a || leb n b) 5 (pick (leb b a) 6 (pick (at (pair_number a b)) 7 0))

-- The bits afterwards: a link with no fault is marked.
unfoldable pub bits_after : (n a b : ℕ) (bits : List ℕ) → List ℕ
bits_after n a b bits = pick (eqb (fault_at n (marked bits) a b) 0) (mark bits (pair_number a b)) bits

pub some-fault : (fault : LinkFault) → ltb 0 (fault_of (Err fault)) ≡ true
some-fault RelayRange = refl
some-fault NotBelow = refl
some-fault Repeated = refl

-- The refusal for a fault of a link has the fault's number and the link as its place.
abbrev pub fault_refusal : LinkFault → ℕ → Refusal → Type 0
fault_refusal fault link r = refusal_of {A = List ℕ} r ≡ refused (fault_of (Err fault)) link

-- What `check_link` promises: its answer and the bits afterwards.
pub record LinkChecked (n a b : ℕ) (bits after : List ℕ) (r : Result ⊤ LinkFault) : Type 0 where
  pub fault : fault_of r ≡ fault_at n (marked bits) a b
  pub bits_then : after ≡ bits_after n a b bits

-- The bits have room for the pairs of n relays: one bit for each pair number.
abbrev pub RoomFor : (n : ℕ) (bits : List ℕ) → Type 0
RoomFor n bits = row_start n ≤ 64 * length bits

-- The bits hold the pairs of the first i links of the table, of all pairs of n relays.
pub record Seen (n : ℕ) (bits lows highs : List ℕ) (i : ℕ) : Type 0 where
  pub room : RoomFor n bits
  pub marks : Marks n (marked bits) lows highs i

-- No pair is marked yet: in as many words as have room for the pairs of n relays, and so in those for up to 32, up to 128,
-- up to 512 and up to 1,000 relays.
module _ (n : ℕ) (bits lows highs : List ℕ) where
  pub seen_none : (words : ℕ) → row_start n ≤ 64 * words → bits ≡ replicate words 0 → Seen n bits lows highs 0
  seen_none words room e =
      record {
        room = omega (arith, ap length e ∙ length-replicate {A = ℕ} words 0);
        marks = marks-none n (marked bits) lows highs
            (λ p h. ap (λ (l : List ℕ). marked l p) e ∙ marked-none words p (omega arith));
      }

  pub none-of-32 : n ≤ 32 → bits ≡ replicate 8 0 → Seen n bits lows highs 0
  none-of-32 h = seen_none 8 (omega (arith, rows-of-32 n h))

  pub none-of-128 : n ≤ 128 → bits ≡ replicate 127 0 → Seen n bits lows highs 0
  none-of-128 h = seen_none 127 (rows-of-128 n h)

  pub none-of-512 : n ≤ 512 → bits ≡ replicate 2044 0 → Seen n bits lows highs 0
  none-of-512 h = seen_none 2044 (rows-of-512 n h)

  pub none-of-1000 : n ≤ 1000 → bits ≡ replicate 7805 0 → Seen n bits lows highs 0
  none-of-1000 h = seen_none 7805 (omega (arith, rows-of-1000 n h))

-- The fault by the marks is the fault by the table.
fault-same : (n a b : ℕ) (at : ℕ → Bool) (lows highs : List ℕ) (i : ℕ) → Marks n at lows highs i
    → fault_at n at a b ≡ link_fault n lows highs i a b
unfolding fault_at link_fault
fault-same n a b at lows highs i marks = go (leb n a) (leb n b) (leb b a) refl refl refl
  where
    go : (out₁ out₂ up : Bool) → leb n a ≡ out₁ → leb n b ≡ out₂ → leb b a ≡ up
        → ◌≡◌ {A = ℕ} (pick (out₁ || out₂) 5 (pick up 6 (pick (at (pair_number a b)) 7 0)))
        (pick (out₁ || out₂) 5 (pick up 6 (pick (some_below (is_pair lows highs a b) i) 7 0)))
    go true out₂ up e₁ e₂ e₃ = refl
    go false true up e₁ e₂ e₃ = refl
    go false false true e₁ e₂ e₃ = refl
    go false false false e₁ e₂ e₃ =
        ap (λ (t : Bool). pick {A = ℕ} t 7 0)
        (marks a b (leb-false b a e₃) (leb-false n b e₂))

-- A link with no fault joins a lower relay to a higher one, both below n.
pub fault-none : (n a b : ℕ) (at : ℕ → Bool) → fault_at n at a b ≡ 0 → (a < b) × (b < n)
unfolding fault_at
fault-none n a b at = go (leb n a) (leb n b) (leb b a) refl refl refl
  where
    go : (out₁ out₂ up : Bool) → leb n a ≡ out₁ → leb n b ≡ out₂ → leb b a ≡ up
        → ◌≡◌ {A = ℕ} (pick (out₁ || out₂) 5 (pick up 6 (pick (at (pair_number a b)) 7 0))) 0 → (a < b) × (b < n)
    go true out₂ up e₁ e₂ e₃ e = absurd (omega arith)
    go false true up e₁ e₂ e₃ e = absurd (omega arith)
    go false false true e₁ e₂ e₃ e = absurd (omega arith)
    go false false false e₁ e₂ e₃ e = (leb-false b a e₃, leb-false n b e₂)

bits-fine : (n a b : ℕ) (bits : List ℕ) → fault_at n (marked bits) a b ≡ 0 → bits_after n a b bits ≡ mark bits (pair_number a b)
unfolding bits_after
bits-fine n a b bits e = ap (λ (f : ℕ). pick (eqb f 0) (mark bits (pair_number a b)) bits) e

seen-mark : (n a b : ℕ) (lows highs : List ℕ) (i : ℕ) (bits : List ℕ) → Seen n bits lows highs i
    → a < b → b < n → get_or lows i 0 ≡ a → get_or highs i 0 ≡ b → Seen n (mark bits (pair_number a b)) lows highs (i + 1)
seen-mark n a b lows highs i bits seen up within low high =
    record {
      room = omega (arith, length-mark bits (pair_number a b), seen.room);
      marks = marks-next n (marked bits) (marked (mark bits (pair_number a b))) lows highs i a b up low high
          (λ q. marked-mark bits (pair_number a b) q (omega (arith, pair-below n a b up within, seen.room)))
          seen.marks;
    }

-- For a table: the answer of `check_link` is the fault of the link after the first i, and after a fine link i the bits
-- hold one link more.
module _ (n a b : ℕ) (lows highs : List ℕ) (i : ℕ) (bits after : List ℕ) (r : Result ⊤ LinkFault)
    (seen : Seen n bits lows highs i) (checked : LinkChecked n a b bits after r) where
  pub seen-fault : fault_of r ≡ link_fault n lows highs i a b
  seen-fault = checked.fault ∙ fault-same n a b (marked bits) lows highs i seen.marks

  pub seen_next : fault_of r ≡ 0 → get_or lows i 0 ≡ a → get_or highs i 0 ≡ b → Seen n after lows highs (i + 1)
  seen_next fine low high =
      let none : fault_at n (marked bits) a b ≡ 0 = sym checked.fault ∙ fine in
      let fit = fault-none n a b (marked bits) none in
      rw (checked.bits_then ∙ bits-fine n a b bits none)
      (seen-mark n a b lows highs i bits seen fit.0 fit.1 low high)

same-front : (xs : List ℕ) (x : ℕ) (j : ℕ) → j < length xs → get_or xs j 0 ≡ get_or (xs ++ (x ∷ [])) j 0
same-front xs x j h = sym (get_or-append xs (x ∷ []) 0 j h)

last_of : (xs : List ℕ) (x : ℕ) → get_or (xs ++ (x ∷ [])) (length xs) 0 ≡ x
last_of xs x = get_or-append_seam xs x [] 0

-- The same for a table that grows by the link: the bits hold all of it.
pub seen-snoc : (n a b : ℕ) (lows highs bits after : List ℕ) (r : Result ⊤ LinkFault) → length lows ≡ length highs
    → Seen n bits lows highs (length lows) → LinkChecked n a b bits after r → fault_of r ≡ 0
    → Seen n after (lows ++ (a ∷ [])) (highs ++ (b ∷ [])) (length (lows ++ (a ∷ [])))
seen-snoc n a b lows highs bits after r even seen checked fine =
    rw (length-append lows (a ∷ []))
    (seen_next n a b (lows ++ (a ∷ [])) (highs ++ (b ∷ [])) (length lows) bits after r grown checked fine
    (last_of lows a)
    (rw even (last_of highs b)))
  where
    grown : Seen n bits (lows ++ (a ∷ [])) (highs ++ (b ∷ [])) (length lows)
    grown =
        record {
          room = seen.room;
          marks = marks-front n (marked bits) lows highs (lows ++ (a ∷ [])) (highs ++ (b ∷ [])) (length lows)
              (λ j h. same-front lows a j h)
              (λ j h. same-front highs b j (rw even at h))
              seen.marks;
        }

-- Receipts that the code finds to be the same are equal.
use Rattle.std.proofs.Common.{◌≡◌, ◌≢◌, ℕ, ◌==◌, true, false, ◌&&◌, List, [], ◌∷◌, length}
use Rattle.std.proofs.Common.{refl, sym, ap, Option, Some, None}
use Rattle.std.proofs.lemmas.Bool.{and_parts, and_from, eq-eqb, eqb-true, false_from_ne_true}
use Rattle.std.proofs.lemmas.Bool.Decides.{Decides-int_eq}
use Rattle.std.proofs.lemmas.Cmp.{nat_list_eq_equiv, int_eq_equiv}
use Rattle.std.specs.Cmp.Lexicographic as texts
use Rattle.td_rows.specs.declared.key.Key.{Key}
use Rattle.td_rows.specs.declared.kind.Kind.{Kind}
use Rattle.td_rows.specs.declared.kind.Kind.TheVariants as kinds
use Rattle.td_rows.specs.declared.outcome.Outcome.{Outcome}
use Rattle.td_rows.specs.declared.outcome.Outcome.TheVariants as ends
use Rattle.td_rows.specs.Keys.{same_key}
use Rattle.td_rows.proofs.Keys.{same_key-true, same_key-refl}
use Rattle.td_desk.specs.declared.receipt.Receipt.{Receipt}
use Rattle.td_desk.specs.declared.receipt.Receipt.TheVariants.{Made, Swept, Undid}
use Rattle.td_desk.specs.inner.Matching.{same_text, same_number, same_outcome, same_kind, same_keys}
use Rattle.td_desk.specs.inner.Matching.{same_receipt}

-- ---- 1. the parts of kinds

same_text-is : (s t : List ℕ) → same_text s t ≡ true → s ≡ t
same_text-is s t h = texts.same_text s t (sym h)

same_text-refl : (s : List ℕ) → same_text s s ≡ true
same_text-refl s = nat_list_eq_equiv.refl s

same_number-is : (n m : Option ℕ) → same_number n m ≡ true → n ≡ m
same_number-is None None h = refl
same_number-is None (Some m) h = absurd (cc)
same_number-is (Some n) None h = absurd (cc)
same_number-is (Some n) (Some m) h = ap (λ k. Some k) (eqb-true n m h)

same_number-refl : (n : Option ℕ) → same_number n n ≡ true
same_number-refl None = refl
same_number-refl (Some n) = eq-eqb n n refl

same_outcome-is : (o p : Outcome) → same_outcome o p ≡ true → o ≡ p
same_outcome-is ends.Built ends.Built h = refl
same_outcome-is ends.Built ends.Attempted h = absurd (cc)
same_outcome-is ends.Built ends.GivenBack h = absurd (cc)
same_outcome-is ends.Built (ends.Waits t) h = absurd (cc)
same_outcome-is ends.Attempted ends.Built h = absurd (cc)
same_outcome-is ends.Attempted ends.Attempted h = refl
same_outcome-is ends.Attempted ends.GivenBack h = absurd (cc)
same_outcome-is ends.Attempted (ends.Waits t) h = absurd (cc)
same_outcome-is ends.GivenBack ends.Built h = absurd (cc)
same_outcome-is ends.GivenBack ends.Attempted h = absurd (cc)
same_outcome-is ends.GivenBack ends.GivenBack h = refl
same_outcome-is ends.GivenBack (ends.Waits t) h = absurd (cc)
same_outcome-is (ends.Waits s) ends.Built h = absurd (cc)
same_outcome-is (ends.Waits s) ends.Attempted h = absurd (cc)
same_outcome-is (ends.Waits s) ends.GivenBack h = absurd (cc)
same_outcome-is (ends.Waits s) (ends.Waits t) h = ap (λ x. ends.Waits x) (same_text-is s t h)

same_outcome-refl : (o : Outcome) → same_outcome o o ≡ true
same_outcome-refl ends.Built = refl
same_outcome-refl ends.Attempted = refl
same_outcome-refl ends.GivenBack = refl
same_outcome-refl (ends.Waits s) = same_text-refl s

-- ---- 2. kinds

same_kind-is : (k j : Kind) → same_kind k j ≡ true → k ≡ j
same_kind-is kinds.Gb kinds.Gb h = refl
same_kind-is kinds.Gb (kinds.Nmu m f u) h = absurd (cc)
same_kind-is kinds.Gb (kinds.Bp q) h = absurd (cc)
same_kind-is kinds.Gb (kinds.Dw r) h = absurd (cc)
same_kind-is kinds.Gb (kinds.Claim b) h = absurd (cc)
same_kind-is kinds.Gb (kinds.Outcome b w) h = absurd (cc)
same_kind-is kinds.Gb kinds.Arrive h = absurd (cc)
same_kind-is kinds.Gb kinds.Sweep h = absurd (cc)
same_kind-is (kinds.Nmu n e t) kinds.Gb h = absurd (cc)
same_kind-is (kinds.Nmu n e t) (kinds.Nmu m f u) h =
    let p = and_parts (same_number n m) (same_text e f && same_text t u) h in
    let q = and_parts (same_text e f) (same_text t u) p.1 in
    (λ i. kinds.Nmu (same_number-is n m p.0 i) (same_text-is e f q.0 i) (same_text-is t u q.1 i))
same_kind-is (kinds.Nmu n e t) (kinds.Bp q) h = absurd (cc)
same_kind-is (kinds.Nmu n e t) (kinds.Dw r) h = absurd (cc)
same_kind-is (kinds.Nmu n e t) (kinds.Claim b) h = absurd (cc)
same_kind-is (kinds.Nmu n e t) (kinds.Outcome b w) h = absurd (cc)
same_kind-is (kinds.Nmu n e t) kinds.Arrive h = absurd (cc)
same_kind-is (kinds.Nmu n e t) kinds.Sweep h = absurd (cc)
same_kind-is (kinds.Bp p) kinds.Gb h = absurd (cc)
same_kind-is (kinds.Bp p) (kinds.Nmu m f u) h = absurd (cc)
same_kind-is (kinds.Bp p) (kinds.Bp q) h = ap (λ x. kinds.Bp x) ((Decides-int_eq p q).0 h)
same_kind-is (kinds.Bp p) (kinds.Dw r) h = absurd (cc)
same_kind-is (kinds.Bp p) (kinds.Claim b) h = absurd (cc)
same_kind-is (kinds.Bp p) (kinds.Outcome b w) h = absurd (cc)
same_kind-is (kinds.Bp p) kinds.Arrive h = absurd (cc)
same_kind-is (kinds.Bp p) kinds.Sweep h = absurd (cc)
same_kind-is (kinds.Dw s) kinds.Gb h = absurd (cc)
same_kind-is (kinds.Dw s) (kinds.Nmu m f u) h = absurd (cc)
same_kind-is (kinds.Dw s) (kinds.Bp q) h = absurd (cc)
same_kind-is (kinds.Dw s) (kinds.Dw r) h = ap (λ x. kinds.Dw x) (same_text-is s r h)
same_kind-is (kinds.Dw s) (kinds.Claim b) h = absurd (cc)
same_kind-is (kinds.Dw s) (kinds.Outcome b w) h = absurd (cc)
same_kind-is (kinds.Dw s) kinds.Arrive h = absurd (cc)
same_kind-is (kinds.Dw s) kinds.Sweep h = absurd (cc)
same_kind-is (kinds.Claim a) kinds.Gb h = absurd (cc)
same_kind-is (kinds.Claim a) (kinds.Nmu m f u) h = absurd (cc)
same_kind-is (kinds.Claim a) (kinds.Bp q) h = absurd (cc)
same_kind-is (kinds.Claim a) (kinds.Dw r) h = absurd (cc)
same_kind-is (kinds.Claim a) (kinds.Claim b) h = ap (λ x. kinds.Claim x) (eqb-true a b h)
same_kind-is (kinds.Claim a) (kinds.Outcome b w) h = absurd (cc)
same_kind-is (kinds.Claim a) kinds.Arrive h = absurd (cc)
same_kind-is (kinds.Claim a) kinds.Sweep h = absurd (cc)
same_kind-is (kinds.Outcome a o) kinds.Gb h = absurd (cc)
same_kind-is (kinds.Outcome a o) (kinds.Nmu m f u) h = absurd (cc)
same_kind-is (kinds.Outcome a o) (kinds.Bp q) h = absurd (cc)
same_kind-is (kinds.Outcome a o) (kinds.Dw r) h = absurd (cc)
same_kind-is (kinds.Outcome a o) (kinds.Claim b) h = absurd (cc)
same_kind-is (kinds.Outcome a o) (kinds.Outcome b w) h =
    let q = and_parts (a == b) (same_outcome o w) h in
    (λ i. kinds.Outcome (eqb-true a b q.0 i) (same_outcome-is o w q.1 i))
same_kind-is (kinds.Outcome a o) kinds.Arrive h = absurd (cc)
same_kind-is (kinds.Outcome a o) kinds.Sweep h = absurd (cc)
same_kind-is kinds.Arrive kinds.Gb h = absurd (cc)
same_kind-is kinds.Arrive (kinds.Nmu m f u) h = absurd (cc)
same_kind-is kinds.Arrive (kinds.Bp q) h = absurd (cc)
same_kind-is kinds.Arrive (kinds.Dw r) h = absurd (cc)
same_kind-is kinds.Arrive (kinds.Claim b) h = absurd (cc)
same_kind-is kinds.Arrive (kinds.Outcome b w) h = absurd (cc)
same_kind-is kinds.Arrive kinds.Arrive h = refl
same_kind-is kinds.Arrive kinds.Sweep h = absurd (cc)
same_kind-is kinds.Sweep kinds.Gb h = absurd (cc)
same_kind-is kinds.Sweep (kinds.Nmu m f u) h = absurd (cc)
same_kind-is kinds.Sweep (kinds.Bp q) h = absurd (cc)
same_kind-is kinds.Sweep (kinds.Dw r) h = absurd (cc)
same_kind-is kinds.Sweep (kinds.Claim b) h = absurd (cc)
same_kind-is kinds.Sweep (kinds.Outcome b w) h = absurd (cc)
same_kind-is kinds.Sweep kinds.Arrive h = absurd (cc)
same_kind-is kinds.Sweep kinds.Sweep h = refl

same_kind-refl : (k : Kind) → same_kind k k ≡ true
same_kind-refl kinds.Gb = refl
same_kind-refl (kinds.Nmu n e t) =
    and_from (same_number n n) (same_text e e && same_text t t) (same_number-refl n)
    (and_from (same_text e e) (same_text t t) (same_text-refl e) (same_text-refl t))
same_kind-refl (kinds.Bp p) = int_eq_equiv.refl p
same_kind-refl (kinds.Dw s) = same_text-refl s
same_kind-refl (kinds.Claim a) = eq-eqb a a refl
same_kind-refl (kinds.Outcome a o) =
    and_from (a == a) (same_outcome o o) (eq-eqb a a refl) (same_outcome-refl o)
same_kind-refl kinds.Arrive = refl
same_kind-refl kinds.Sweep = refl

-- ---- 3. keys

pub same_keys-is : (js ks : List Key) → same_keys js ks ≡ true → js ≡ ks
same_keys-is [] [] h = refl
same_keys-is [] (k ∷ ks) h = absurd (cc)
same_keys-is (j ∷ js) [] h = absurd (cc)
same_keys-is (j ∷ js) (k ∷ ks) h =
    let p = and_parts (same_key j k) (same_keys js ks) h in
    (λ i. same_key-true j k p.0 i ∷ same_keys-is js ks p.1 i)

same_keys-refl : (ks : List Key) → same_keys ks ks ≡ true
same_keys-refl [] = refl
same_keys-refl (k ∷ ks) =
    and_from (same_key k k) (same_keys ks ks) (same_key-refl k) (same_keys-refl ks)

pub same_keys-apart : (js ks : List Key) → length js ≢ length ks → false ≡ same_keys js ks
same_keys-apart js ks apart =
    sym (false_from_ne_true (same_keys js ks) (λ h. apart (ap length (same_keys-is js ks h))))

-- ---- 4. receipts

pub same_receipt-is : (q r : Receipt) → same_receipt q r ≡ true → q ≡ r
same_receipt-is (Made n k ks) (Made m j js) h =
    let p = and_parts (n == m) (same_kind k j && same_keys ks js) h in
    let s = and_parts (same_kind k j) (same_keys ks js) p.1 in
    (λ i. Made (eqb-true n m p.0 i) (same_kind-is k j s.0 i) (same_keys-is ks js s.1 i))
same_receipt-is (Made n k ks) (Swept m) h = absurd (cc)
same_receipt-is (Made n k ks) (Undid m) h = absurd (cc)
same_receipt-is (Swept n) (Made m j js) h = absurd (cc)
same_receipt-is (Swept n) (Swept m) h = ap Swept (eqb-true n m h)
same_receipt-is (Swept n) (Undid m) h = absurd (cc)
same_receipt-is (Undid n) (Made m j js) h = absurd (cc)
same_receipt-is (Undid n) (Swept m) h = absurd (cc)
same_receipt-is (Undid n) (Undid m) h = ap Undid (eqb-true n m h)

pub same_receipt-refl : (r : Receipt) → same_receipt r r ≡ true
same_receipt-refl (Made n k ks) =
    and_from (n == n) (same_kind k k && same_keys ks ks) (eq-eqb n n refl)
    (and_from (same_kind k k) (same_keys ks ks) (same_kind-refl k) (same_keys-refl ks))
same_receipt-refl (Swept n) = eq-eqb n n refl
same_receipt-refl (Undid n) = eq-eqb n n refl

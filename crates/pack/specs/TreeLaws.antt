-- The words of a tree, node by node, are its tight form; and those of a record.
use Rattle.std.specs.Prelude.{◌≡◌, take, get_or}
use Rattle.std.proofs.Math.Path.{refl, sym, ap, ap₂}
use Rattle.std.proofs.Common.{◌∙◌, subst, drop-drop, take-suc, take_all}
use Rattle.std.proofs.Math.Option.{Option, none, some}
use mathlib.Core.List.{List, [], ◌∷◌, ◌++◌, append_assoc, append-nil, map}
use Prim.Native.Nat.{ℕ, zero, suc, ◌+◌, ◌*◌, ◌/◌, ◌%◌, ◌^◌, ◌≤◌, ◌<◌}
use native.Mathlib.Omega.{arith}
use Rattle.std.proofs.Math.Pow.{high}
use Rattle.std.proofs.Math.Pow as pow
use Rattle.std.proofs.Math.ListN.{length, drop}
use Rattle.std.proofs.lemmas.List.{length-map}
use Rattle.std.proofs.Math.Seq.{drop_at}
use Rattle.model.specs.Fields.{words_for, pack}
use Rattle.model.specs.Facts.{fact_count}
use Rattle.model.specs.Condition.{Condition, always, never, has, not_c, all_c, any_c, Conditions, cnil, ccons}
use Rattle.model.specs.Decision.{Shape, Decision, permits, denies}
use Rattle.model.specs.Policy.{Grant, Policy, permit, deny, grant, all, any, or_else, stored, Policies, pnil, pcons}
use Rattle.model.specs.Consulted.{Entry, Consulted}
use Rattle.model.specs.Record.{Record, tree}
use Rattle.model.specs.Writing.{obligation_bits, entry_bits, word, shape_bit, marked, presence_field, entry_field, count_c, count, encode_c, encode_cs, denied_field, encode_d, encode, encodes, lead_kind, encode_r, numbered}
use Rattle.model.specs.Reading.{kind_of, obligation_count}
use Rattle.model.specs.Bits.{bits_of}
use Rattle.model.specs.Tight.{optional, each, tight_c, tight_cs, tight_e, numbers_of, tight_d, tight, tights, tight_r}
use Rattle.laws.specs.Lists.{Below}
use Rattle.laws.specs.FieldAt.{field_at}
use Rattle.laws.proofs.FieldAtLaws.{packed_field, narrow_below, narrow_entries, presence_few}
use Rattle.laws.proofs.Lengths.{length_pack}
use Rattle.laws.specs.Form.{IfThere, FormC, FormCs, FormL, Countable, FormD, FormG, FormOf, FormsOf}
use Rattle.laws.proofs.ReadForm.{Named}
use Rattle.laws.proofs.NodeLaws.{shape_small, marked_small, kind_small}
use Rattle.policy_model.specs.Span.{own_by, own_of}
use Rattle.bits.specs.Widths.{plain_width, denied_width}
use Rattle.bits.specs.WidthLaws.{mark_absent, mark_there, denied_there, denied_absent}
use Rattle.bits.specs.RunLaws.{bits_parted}
use Rattle.bits.specs.Splice.{low}
use Rattle.bits.specs.SpliceLaws.{low_is, low_of}
use Rattle.bits.specs.CursorLaws.{sum_fits}
use Rattle.pack.specs.Flat.{list_run, entry_in, tight_entry, owed_in, mark_run, plain_run, flat, record_run}
use Rattle.pack.specs.FlatLaws.{own_plain, node_grant, node_permit, node_deny, node_plain, flat_node}

-- ---- lists
each_end : (w : ℕ) (vs : List ℕ) (v : ℕ) → each w (vs ++ v ∷ []) ≡ each w vs ++ bits_of w v
each_end w [] v = append-nil (bits_of w v)
each_end w (x ∷ vs) v = ap (λ l. bits_of w x ++ l) (each_end w vs v) ∙ sym (append_assoc (bits_of w x) (each w vs) (bits_of w v))

below_at : (n : ℕ) (vs : List ℕ) (i : ℕ) → Below n vs → i < length vs → get_or vs i 0 < n
below_at n [] i b h = let z : ⊥ = omega arith in absurd z
below_at n (v ∷ vs) zero b h = b.0
below_at n (v ∷ vs) (suc i) b h = below_at n vs i b.1 (omega arith)

list_take : (f : ℕ → ℕ) (w n : ℕ) (vs : List ℕ) → ((i : ℕ) → i < length vs → f i ≡ get_or vs i 0) → n ≤ 2 ^ w → Below n vs → (k : ℕ) → k ≤ length vs → list_run f w k ≡ each w (take k vs)
unfolding list_run
list_take f w n vs e m b zero h = refl
list_take f w n vs e m b (suc k) h =
    let v = get_or vs k 0 in
    ap₂ (λ x y. x ++ y) (list_take f w n vs e m b k (omega arith)) (ap (low w) (e k (omega arith)) ∙ low_is w v (let z = below_at n vs k b (omega arith) in omega arith))
    ∙ sym (each_end w (take k vs) v)
    ∙ ap (each w) (sym (take-suc vs k 0 (omega arith)))

list_is : (f : ℕ → ℕ) (w n : ℕ) (vs : List ℕ) → ((i : ℕ) → i < length vs → f i ≡ get_or vs i 0) → n ≤ 2 ^ w → Below n vs → list_run f w (length vs) ≡ each w vs
list_is f w n vs e m b = list_take f w n vs e m b (length vs) (omega arith) ∙ ap (each w) (take_all (length vs) vs (omega arith))

obligations_run : (os ws : List ℕ) → Below obligation_count os → list_run (field_at obligation_bits (pack obligation_bits os ++ ws)) 6 (length os) ≡ each 6 os
obligations_run os ws b =
    list_is (field_at obligation_bits (pack obligation_bits os ++ ws)) 6 64 os (λ i h. packed_field obligation_bits 3 os ws i refl (narrow_below obligation_bits obligation_count os (omega arith) b) h) (omega arith) b

facts_run : (fs ws : List ℕ) → Below fact_count fs → list_run (entry_in (pack entry_bits fs ++ ws)) 10 (length fs) ≡ each 10 fs
unfolding entry_in
facts_run fs ws b =
    list_is (entry_in (pack entry_bits fs ++ ws)) 10 1024 fs
    (λ i h. ap tight_entry (packed_field entry_bits 1 fs ws i refl (narrow_below entry_bits fact_count fs (omega arith) b) h) ∙ (let z = below_at 1024 fs i b h in omega arith)) (omega arith) b

-- ---- parts of a node
mark_run_lem : (l : Option ℕ) → FormL l → mark_run (marked l) ≡ optional 15 l
mark_run_lem none f = ap (λ w. low w 0) (sym (mark_absent 0 (omega arith))) ∙ low_is 1 0 (omega arith)
mark_run_lem (some n) f =
    let h : 32768 + n < 2 ^ 16 = omega arith in
    let e₁ : (32768 + n) / 2 ^ 15 ≡ 1 = omega arith in
    let e₂ : (32768 + n) % 2 ^ 15 ≡ n = omega arith in
    ap (λ w. low w (32768 + n)) (sym (mark_there (32768 + n) (omega arith))) ∙ low_is 16 (32768 + n) h ∙ bits_parted 1 15 (32768 + n) h ∙ ap₂ (λ x y. bits_of 1 x ++ bits_of 15 y) e₁ e₂

-- Two fields as one.
two : (a b x y v : ℕ) → x < 2 ^ a → y < 2 ^ b → v ≡ x * 2 ^ b + y → bits_of (a + b) v ≡ bits_of a x ++ bits_of b y
two a b x y v h k e =
    let fits : v < 2 ^ (a + b) = subst (λ z. z < 2 ^ (a + b)) (sym e) (sum_fits a b x y h k) in
    bits_parted a b v fits ∙ ap₂ (λ p q. bits_of a p ++ bits_of b q) (ap (λ z. z / 2 ^ b) e ∙ high x b k) (ap (λ z. z % 2 ^ b) e ∙ pow.low x b k)

low_two : (a b x y v : ℕ) → x < 2 ^ a → y < 2 ^ b → v ≡ x * 2 ^ b + y → low (a + b) v ≡ bits_of a x ++ bits_of b y
low_two a b x y v h k e = low_is (a + b) v (subst (λ z. z < 2 ^ (a + b)) (sym e) (sum_fits a b x y h k)) ∙ two a b x y v h k e

-- ---- nodes without lists
module _ (k r : ℕ) (hr : r < 268435456) where
  pub kind_is : kind_of (word k r) ≡ k
  kind_is = omega arith

  plain_word_lem : (p : ℕ) → plain_width k ≡ p → k < 16 → r < 2 ^ p → word k r % 2 ^ p ≡ r → plain_run (word k r) ≡ bits_of 4 k ++ bits_of p r
  plain_word_lem p e hk h m =
      ap (λ j. low (4 + plain_width j) (j * 2 ^ plain_width j + word k r % 2 ^ plain_width j)) kind_is
      ∙ ap (λ q. low (4 + q) (k * 2 ^ q + word k r % 2 ^ q)) e
      ∙ ap (λ x. low (4 + p) (k * 2 ^ p + x)) m
      ∙ low_two 4 p k r (k * 2 ^ p + r) hk h refl

  plain_node : (ws : List ℕ) (p : ℕ) → plain_width k ≡ p → k < 16 → (k ≡ 8 → ⊥) → k < 12 → r < 2 ^ p → word k r % 2 ^ p ≡ r → flat (word k r ∷ ws) 0 ≡ (bits_of 4 k ++ bits_of p r) ++ flat ws 0
  plain_node ws p e hk g t h m =
      let kd = kind_is in
      flat_node (word k r) ws
      ∙ ap₂ (λ x y. x ++ flat (drop y ws) 0)
      (node_plain (word k r ∷ ws) 0 (λ z. g (sym kd ∙ z)) (λ z. omega arith) (λ z. omega arith) ∙ plain_word_lem p e hk h m)
      (sym (own_plain (word k r) ws ((λ z. g (sym kd ∙ z)), (λ z. omega arith), λ z. omega arith)))

-- ---- nodes with lists
own_grant : (w : ℕ) (ws : List ℕ) → kind_of w ≡ 8 → own_of w ws ≡ suc (words_for 4 (owed_in w))
unfolding own_of
own_grant w ws e = ap (λ j. get_or (own_by (w / 1048576 % 128) ws) j 0) e

own_permit : (w : ℕ) (ws : List ℕ) → kind_of w ≡ 12 → own_of w ws ≡ suc (words_for 4 (owed_in w) + words_for 2 (get_or ws 0 0 % 4096))
unfolding own_of
own_permit w ws e = ap (λ j. get_or (own_by (w / 1048576 % 128) ws) j 0) e

own_deny : (w : ℕ) (ws : List ℕ) → kind_of w ≡ 13 → own_of w ws ≡ suc (suc (words_for 2 (get_or ws 1 0 % 4096)))
unfolding own_of
own_deny w ws e = ap (λ j. get_or (own_by (w / 1048576 % 128) ws) j 0) e

assoc3 : (a b c d : List ℕ) → (a ++ (b ++ c)) ++ d ≡ a ++ (b ++ (c ++ d))
assoc3 a b c d = append_assoc a (b ++ c) d ∙ ap (λ l. a ++ l) (append_assoc b c d)

seven : (a b c d e f g h i : List ℕ) → (a ++ (b ++ (c ++ (d ++ (e ++ (f ++ g)))))) ++ (h ++ i) ≡ (a ++ (b ++ (c ++ (d ++ (e ++ (f ++ (g ++ h))))))) ++ i
seven a b c d e f g h i =
    append_assoc a (b ++ (c ++ (d ++ (e ++ (f ++ g))))) (h ++ i)
    ∙ ap (λ l. a ++ l)
    (append_assoc b (c ++ (d ++ (e ++ (f ++ g)))) (h ++ i) ∙ ap (λ l. b ++ l)
    (append_assoc c (d ++ (e ++ (f ++ g))) (h ++ i) ∙ ap (λ l. c ++ l)
    (append_assoc d (e ++ (f ++ g)) (h ++ i) ∙ ap (λ l. d ++ l)
    (append_assoc e (f ++ g) (h ++ i) ∙ ap (λ l. e ++ l) (append_assoc f g (h ++ i))))))
    ∙ sym
    (append_assoc a (b ++ (c ++ (d ++ (e ++ (f ++ (g ++ h)))))) i
    ∙ ap (λ l. a ++ l)
    (append_assoc b (c ++ (d ++ (e ++ (f ++ (g ++ h))))) i ∙ ap (λ l. b ++ l)
    (append_assoc c (d ++ (e ++ (f ++ (g ++ h)))) i ∙ ap (λ l. c ++ l)
    (append_assoc d (e ++ (f ++ (g ++ h))) i ∙ ap (λ l. d ++ l)
    (append_assoc e (f ++ (g ++ h)) i ∙ ap (λ l. e ++ l)
    (append_assoc f (g ++ h) i ∙ ap (λ l. f ++ l) (append_assoc g h i)))))))

mutual
  unfolding plain_width

  flat_c : (c : Condition) (ws : List ℕ) → FormC c → flat (encode_c c ++ ws) 0 ≡ tight_c c ++ flat ws 0
  flat_c always ws f = plain_node 0 0 (omega arith) ws 0 refl (omega arith) (λ e. omega arith) (omega arith) (omega arith) (omega arith)
  flat_c never ws f = plain_node 1 0 (omega arith) ws 0 refl (omega arith) (λ e. omega arith) (omega arith) (omega arith) (omega arith)
  flat_c (has n) ws f = plain_node 2 n (omega arith) ws 10 refl (omega arith) (λ e. omega arith) (omega arith) f (omega arith)
  flat_c (not_c c) ws f =
      plain_node 3 0 (omega arith) (encode_c c ++ ws) 0 refl (omega arith) (λ e. omega arith) (omega arith) (omega arith) (omega arith)
      ∙ ap (λ l. bits_of 4 3 ++ l) (flat_c c ws f) ∙ sym (append_assoc (bits_of 4 3) (tight_c c) (flat ws 0))
  flat_c (all_c cs) ws f =
      plain_node 4 (count_c cs) (omega (arith, f.0)) (encode_cs cs ++ ws) 12 refl (omega arith) (λ e. omega arith) (omega arith) (omega (arith, f.0)) (omega (arith, f.0))
      ∙ ap (λ l. (bits_of 4 4 ++ bits_of 12 (count_c cs)) ++ l) (flat_cs cs ws f.1)
      ∙ append_assoc (bits_of 4 4) (bits_of 12 (count_c cs)) (tight_cs cs ++ flat ws 0) ∙ sym (assoc3 (bits_of 4 4) (bits_of 12 (count_c cs)) (tight_cs cs) (flat ws 0))
  flat_c (any_c cs) ws f =
      plain_node 5 (count_c cs) (omega (arith, f.0)) (encode_cs cs ++ ws) 12 refl (omega arith) (λ e. omega arith) (omega arith) (omega (arith, f.0)) (omega (arith, f.0))
      ∙ ap (λ l. (bits_of 4 5 ++ bits_of 12 (count_c cs)) ++ l) (flat_cs cs ws f.1)
      ∙ append_assoc (bits_of 4 5) (bits_of 12 (count_c cs)) (tight_cs cs ++ flat ws 0) ∙ sym (assoc3 (bits_of 4 5) (bits_of 12 (count_c cs)) (tight_cs cs) (flat ws 0))

  flat_cs : (cs : Conditions) (ws : List ℕ) → FormCs cs → flat (encode_cs cs ++ ws) 0 ≡ tight_cs cs ++ flat ws 0
  flat_cs cnil ws f = refl
  flat_cs (ccons c cs) ws f =
      ap (λ l. flat l 0) (append_assoc (encode_c c) (encode_cs cs) ws)
      ∙ flat_c c (encode_cs cs ++ ws) f.0
      ∙ ap (λ l. tight_c c ++ l) (flat_cs cs ws f.1)
      ∙ sym (append_assoc (tight_c c) (tight_cs cs) (flat ws 0))

module _ {O : Type 0} (G : O → Type 0) (B : Condition → Type 0) (number : O → ℕ) (small : (o : O) → G o → number o < 65536) where
  flat_grant : (g : Grant O) (us : List ℕ) → FormG G g
      → flat (word 8 (shape_bit g.shape * 134217728 + length g.obligations * 1048576 + number g.outcome) ∷ (marked g.label * 65536 + marked g.reason) ∷ (pack obligation_bits g.obligations ++ us)) 0
      ≡ (bits_of 4 8 ++ (bits_of 1 (shape_bit g.shape) ++ (bits_of 7 (length g.obligations) ++ (bits_of 16 (number g.outcome) ++ (optional 15 g.label ++ (optional 15 g.reason ++ each 6 g.obligations)))))) ++ flat us 0
  flat_grant g us f =
      let n = length g.obligations in
      let sh = shape_bit g.shape in
      let o = number g.outcome in
      let r = sh * 134217728 + n * 1048576 + o in
      let w = word 8 r in
      let v = marked g.label * 65536 + marked g.reason in
      let os = pack obligation_bits g.obligations ++ us in
      let few : n ≤ 64 = f.1.0 in
      let so = small g.outcome f.0 in
      let ss = shape_small g.shape in
      let ml = marked_small g.label f.2 in
      let mr = marked_small g.reason f.3 in
      let kd : kind_of w ≡ 8 = omega arith in
      let owed : owed_in w ≡ n = omega arith in
      let l₁ : v / 65536 ≡ marked g.label = omega arith in
      let l₂ : v % 65536 ≡ marked g.reason = omega arith in
      let lead : low 12 (w / 1048576) ≡ bits_of 4 8 ++ (bits_of 1 sh ++ bits_of 7 n) =
      low_two 4 8 8 (sh * 128 + n) (w / 1048576) (omega arith) (omega arith) (omega arith) ∙ ap (λ l. bits_of 4 8 ++ l) (two 1 7 sh n (sh * 128 + n) (omega arith) (omega arith) refl) in
      let outcome : low 16 w ≡ bits_of 16 o = low_of 16 w ∙ ap (bits_of 16) (let e : w % 65536 ≡ o = omega arith in e) in
      let list : list_run (field_at obligation_bits os) 6 (owed_in w) ≡ each 6 g.obligations = ap (list_run (field_at obligation_bits os) 6) owed ∙ obligations_run g.obligations us f.1.1 in
      let x₄ = each 6 g.obligations in
      let x₃ = optional 15 g.reason ++ x₄ in
      let x₂ = optional 15 g.label ++ x₃ in
      let x₁ = bits_of 16 o ++ x₂ in
      flat_node w (v ∷ os)
      ∙ ap₂ (λ x y. x ++ y)
      (node_grant (w ∷ v ∷ os) 0 kd
      ∙ ap₂ (λ x y. x ++ y) lead (ap₂ (λ x y. x ++ y) outcome (ap₂ (λ x y. x ++ y) (ap mark_run l₁ ∙ mark_run_lem g.label f.2) (ap₂ (λ x y. x ++ y) (ap mark_run l₂ ∙ mark_run_lem g.reason f.3) list)))
      ∙ append_assoc (bits_of 4 8) (bits_of 1 sh ++ bits_of 7 n) x₁ ∙ ap (λ l. bits_of 4 8 ++ l) (append_assoc (bits_of 1 sh) (bits_of 7 n) x₁))
      (ap (λ i. flat (drop i (v ∷ os)) 0) (own_grant w (v ∷ os) kd ∙ ap (λ i. suc (words_for 4 i)) owed) ∙ ap (λ l. flat l 0) (drop_at (pack obligation_bits g.obligations) us (words_for 4 n) (length_pack obligation_bits g.obligations)))

  flat_d : (d : Decision O) (ws : List ℕ) → FormD G Countable d → flat (encode_d number d ++ ws) 0 ≡ tight_d number d ++ flat ws 0
  flat_d (permits p) ws f =
      let n = length p.obligations in
      let m = length p.facts in
      let o = number p.outcome in
      let r = n * 1048576 + o in
      let w = word 12 r in
      let v = marked p.label * 65536 + m in
      let us = pack entry_bits p.facts ++ ws in
      let os = (pack obligation_bits p.obligations ++ pack entry_bits p.facts) ++ ws in
      let os' = pack obligation_bits p.obligations ++ us in
      let few : n ≤ 127 = f.1.0 in
      let fm : m ≤ 4095 = f.3.0 in
      let so = small p.outcome f.0 in
      let ml = marked_small p.label f.2 in
      let kd : kind_of w ≡ 12 = omega arith in
      let owed : owed_in w ≡ n = omega arith in
      let l₁ : v / 65536 ≡ marked p.label = omega arith in
      let l₂ : v % 4096 ≡ m = omega arith in
      let same : os ≡ os' = append_assoc (pack obligation_bits p.obligations) (pack entry_bits p.facts) ws in
      let past : drop (words_for 4 n) os' ≡ us = drop_at (pack obligation_bits p.obligations) us (words_for 4 n) (length_pack obligation_bits p.obligations) in
      let lead : low 11 (12 * 128 + owed_in w) ≡ bits_of 4 12 ++ bits_of 7 n = ap (λ i. low 11 (12 * 128 + i)) owed ∙ low_two 4 7 12 n (12 * 128 + n) (omega arith) (omega arith) refl in
      let outcome : low 16 w ≡ bits_of 16 o = low_of 16 w ∙ ap (bits_of 16) (let e : w % 65536 ≡ o = omega arith in e) in
      let counted : low 12 v ≡ bits_of 12 m = low_of 12 v ∙ ap (bits_of 12) l₂ in
      let list₁ : list_run (field_at obligation_bits os) 6 (owed_in w) ≡ each 6 p.obligations = ap₂ (λ l i. list_run (field_at obligation_bits l) 6 i) same owed ∙ obligations_run p.obligations us f.1.1 in
      let list₂ : list_run (entry_in (drop (words_for 4 (owed_in w)) os)) 10 (v % 4096) ≡ each 10 p.facts =
      ap₂ (λ l i. list_run (entry_in l) 10 i) (ap₂ (λ i l. drop (words_for 4 i) l) owed same ∙ past) l₂ ∙ facts_run p.facts ws f.3.1 in
      let x₅ = each 10 p.facts in
      let x₄ = each 6 p.obligations ++ x₅ in
      let x₃ = bits_of 12 m ++ x₄ in
      let x₂ = optional 15 p.label ++ x₃ in
      let x₁ = bits_of 16 o ++ x₂ in
      let own : own_of w (v ∷ os) ≡ suc (words_for 4 n + words_for 2 m) = own_permit w (v ∷ os) kd ∙ ap₂ (λ i j. suc (words_for 4 i + words_for 2 j)) owed l₂ in
      flat_node w (v ∷ os)
      ∙ ap₂ (λ x y. x ++ y)
      (node_permit (w ∷ v ∷ os) 0 kd
      ∙ ap₂ (λ x y. x ++ y) lead (ap₂ (λ x y. x ++ y) outcome (ap₂ (λ x y. x ++ y) (ap mark_run l₁ ∙ mark_run_lem p.label f.2) (ap₂ (λ x y. x ++ y) counted (ap₂ (λ x y. x ++ y) list₁ list₂))))
      ∙ append_assoc (bits_of 4 12) (bits_of 7 n) x₁)
      (ap (λ i. flat (drop i (v ∷ os)) 0) own
      ∙ ap (λ l. flat (drop (words_for 4 n + words_for 2 m) l) 0) same
      ∙ ap (λ l. flat l 0) (sym (drop-drop (words_for 2 m) (words_for 4 n) os') ∙ ap (drop (words_for 2 m)) past ∙ drop_at (pack entry_bits p.facts) ws (words_for 2 m) (length_pack entry_bits p.facts)))
  flat_d (denies d) ws f =
      let m = length d.facts in
      let sh = shape_bit d.shape in
      let r = sh * 134217728 + denied_field number d.denied in
      let w = word 13 r in
      let v = marked d.label * 65536 + marked d.reason in
      let us = pack entry_bits d.facts ++ ws in
      let fm : m ≤ 4095 = f.1.0 in
      let ss = shape_small d.shape in
      let ds = denied_fits d.denied f.0 in
      let ml = marked_small d.label f.2 in
      let mr = marked_small d.reason f.3 in
      let kd : kind_of w ≡ 13 = omega arith in
      let l₁ : v / 65536 ≡ marked d.label = omega arith in
      let l₂ : v % 65536 ≡ marked d.reason = omega arith in
      let l₃ : m % 4096 ≡ m = omega arith in
      let counted : low 12 m ≡ bits_of 12 m = low_is 12 m (omega arith) in
      let list : list_run (entry_in us) 10 (m % 4096) ≡ each 10 d.facts = ap (list_run (entry_in us) 10) l₃ ∙ facts_run d.facts ws f.1.1 in
      let x₄ = each 10 d.facts in
      let x₃ = bits_of 12 m ++ x₄ in
      let x₂ = optional 15 d.reason ++ x₃ in
      let x₁ = optional 15 d.label ++ x₂ in
      let own : own_of w (v ∷ m ∷ us) ≡ suc (suc (words_for 2 m)) = own_deny w (v ∷ m ∷ us) kd ∙ ap (λ j. suc (suc (words_for 2 j))) l₃ in
      flat_node w (v ∷ m ∷ us)
      ∙ ap₂ (λ x y. x ++ y)
      (node_deny (w ∷ v ∷ m ∷ us) 0 kd
      ∙ ap (λ x. low 6 (w / 67108864) ++ (low (denied_width w) w ++ x)) (ap₂ (λ x y. x ++ y) (ap mark_run l₁ ∙ mark_run_lem d.label f.2) (ap₂ (λ x y. x ++ y) (ap mark_run l₂ ∙ mark_run_lem d.reason f.3) (ap₂ (λ x y. x ++ y) counted list)))
      ∙ denied_run d.shape d.denied f.0 x₁)
      (ap (λ i. flat (drop i (v ∷ m ∷ us)) 0) own ∙ ap (λ l. flat l 0) (drop_at (pack entry_bits d.facts) ws (words_for 2 m) (length_pack entry_bits d.facts)))
    where
      denied_fits : (x : Option O) → IfThere G x → denied_field number x < 134217728
      denied_fits none h = omega arith
      denied_fits (some o) h = let s = small o h in omega arith

      denied_run : (s : Shape) (x : Option O) → IfThere G x → (xs : List ℕ)
          → low 6 (word 13 (shape_bit s * 134217728 + denied_field number x) / 67108864) ++ (low (denied_width (word 13 (shape_bit s * 134217728 + denied_field number x))) (word 13 (shape_bit s * 134217728 + denied_field number x)) ++ xs)
          ≡ bits_of 4 13 ++ (bits_of 1 (shape_bit s) ++ (optional 16 (numbers_of number x) ++ xs))
      denied_run s none h xs =
          let sh = shape_bit s in
          let ss = shape_small s in
          let w = word 13 (sh * 134217728 + 0) in
          let lead : low 6 (w / 67108864) ≡ bits_of 4 13 ++ (bits_of 1 sh ++ bits_of 1 0) =
          low_two 4 2 13 (sh * 2) (w / 67108864) (omega arith) (omega arith) (omega arith) ∙ ap (λ l. bits_of 4 13 ++ l) (two 1 1 sh 0 (sh * 2) (omega arith) (omega arith) (omega arith)) in
          let absent : low (denied_width w) w ≡ [] = ap (λ i. low i w) (sym (denied_absent w (λ e. omega arith))) ∙ low_of 0 w in
          ap₂ (λ x y. x ++ (y ++ xs)) lead absent
          ∙ append_assoc (bits_of 4 13) (bits_of 1 sh ++ bits_of 1 0) xs ∙ ap (λ l. bits_of 4 13 ++ l) (append_assoc (bits_of 1 sh) (bits_of 1 0) xs)
      denied_run s (some o) h xs =
          let sh = shape_bit s in
          let ss = shape_small s in
          let so = small o h in
          let w = word 13 (sh * 134217728 + (67108864 + number o)) in
          let lead : low 6 (w / 67108864) ≡ bits_of 4 13 ++ (bits_of 1 sh ++ bits_of 1 1) =
          low_two 4 2 13 (sh * 2 + 1) (w / 67108864) (omega arith) (omega arith) (omega arith) ∙ ap (λ l. bits_of 4 13 ++ l) (two 1 1 sh 1 (sh * 2 + 1) (omega arith) (omega arith) (omega arith)) in
          let there : low (denied_width w) w ≡ bits_of 16 (number o) = ap (λ i. low i w) (sym (denied_there w (omega arith))) ∙ low_of 16 w ∙ ap (bits_of 16) (let e : w % 65536 ≡ number o = omega arith in e) in
          ap₂ (λ x y. x ++ (y ++ xs)) lead there
          ∙ append_assoc (bits_of 4 13) (bits_of 1 sh ++ bits_of 1 1) (bits_of 16 (number o) ++ xs)
          ∙ ap (λ l. bits_of 4 13 ++ l) (append_assoc (bits_of 1 sh) (bits_of 1 1) (bits_of 16 (number o) ++ xs) ∙ ap (λ l. bits_of 1 sh ++ l) (sym (append_assoc (bits_of 1 1) (bits_of 16 (number o)) xs)))

  mutual
    unfolding plain_width

    pub flat_t : (t : Policy O) (ws : List ℕ) → FormOf G B Countable t → flat (encode number t ++ ws) 0 ≡ tight number t ++ flat ws 0
    flat_t (permit o) ws f =
        let so = small o f in
        plain_node 6 (number o) (omega arith) ws 16 refl (omega arith) (λ e. omega arith) (omega arith) so (omega arith)
    flat_t deny ws f = plain_node 7 0 (omega arith) ws 0 refl (omega arith) (λ e. omega arith) (omega arith) (omega arith) (omega arith)
    flat_t (grant g c) ws f =
        let x₅ = each 6 g.obligations in
        let x₄ = optional 15 g.reason in
        let x₃ = optional 15 g.label in
        let x₂ = bits_of 16 (number g.outcome) in
        let x₁ = bits_of 7 (length g.obligations) in
        let x₀ = bits_of 1 (shape_bit g.shape) in
        let tail = tight_c c ++ flat ws 0 in
        ap (λ l. flat (word 8 (shape_bit g.shape * 134217728 + length g.obligations * 1048576 + number g.outcome) ∷ (marked g.label * 65536 + marked g.reason) ∷ l) 0) (append_assoc (pack obligation_bits g.obligations) (encode_c c) ws)
        ∙ flat_grant g (encode_c c ++ ws) f.0
        ∙ ap (λ l. (bits_of 4 8 ++ (x₀ ++ (x₁ ++ (x₂ ++ (x₃ ++ (x₄ ++ x₅)))))) ++ l) (flat_c c ws f.1)
        ∙ seven (bits_of 4 8) x₀ x₁ x₂ x₃ x₄ x₅ (tight_c c) (flat ws 0)
    flat_t (all ts) ws f =
        plain_node 9 (count ts) (omega (arith, f.0)) (encodes number ts ++ ws) 12 refl (omega arith) (λ e. omega arith) (omega arith) (omega (arith, f.0)) (omega (arith, f.0))
        ∙ ap (λ l. (bits_of 4 9 ++ bits_of 12 (count ts)) ++ l) (flat_ts ts ws f.1)
        ∙ append_assoc (bits_of 4 9) (bits_of 12 (count ts)) (tights number ts ++ flat ws 0) ∙ sym (assoc3 (bits_of 4 9) (bits_of 12 (count ts)) (tights number ts) (flat ws 0))
    flat_t (any ts) ws f =
        plain_node 10 (count ts) (omega (arith, f.0)) (encodes number ts ++ ws) 12 refl (omega arith) (λ e. omega arith) (omega arith) (omega (arith, f.0)) (omega (arith, f.0))
        ∙ ap (λ l. (bits_of 4 10 ++ bits_of 12 (count ts)) ++ l) (flat_ts ts ws f.1)
        ∙ append_assoc (bits_of 4 10) (bits_of 12 (count ts)) (tights number ts ++ flat ws 0) ∙ sym (assoc3 (bits_of 4 10) (bits_of 12 (count ts)) (tights number ts) (flat ws 0))
    flat_t (or_else a b) ws f =
        plain_node 11 0 (omega arith) ((encode number a ++ encode number b) ++ ws) 0 refl (omega arith) (λ e. omega arith) (omega arith) (omega arith) (omega arith)
        ∙ ap (λ l. (bits_of 4 11 ++ []) ++ l)
        (ap (λ l. flat l 0) (append_assoc (encode number a) (encode number b) ws) ∙ flat_t a (encode number b ++ ws) f.0 ∙ ap (λ l. tight number a ++ l) (flat_t b ws f.1))
        ∙ append_assoc (bits_of 4 11) [] (tight number a ++ (tight number b ++ flat ws 0)) ∙ sym (assoc3 (bits_of 4 11) (tight number a) (tight number b) (flat ws 0))
    flat_t (stored d) ws f = flat_d d ws f

    flat_ts : (ts : Policies O) (ws : List ℕ) → FormsOf G B Countable ts → flat (encodes number ts ++ ws) 0 ≡ tights number ts ++ flat ws 0
    flat_ts pnil ws f = refl
    flat_ts (pcons t ts) ws f =
        ap (λ l. flat l 0) (append_assoc (encode number t) (encodes number ts) ws)
        ∙ flat_t t (encodes number ts ++ ws) f.0
        ∙ ap (λ l. tight number t ++ l) (flat_ts ts ws f.1)
        ∙ sym (append_assoc (tight number t) (tights number ts) (flat ws 0))

  pub sheet_run : (t : Policy O) → FormOf G B Countable t → flat (encode number t) 0 ≡ tight number t
  unfolding flat
  sheet_run t f = ap (λ l. flat l 0) (sym (append-nil (encode number t))) ∙ flat_t t [] f ∙ append-nil (tight number t)

-- ---- records
abbrev entry_value : Entry → ℕ
entry_value e = presence_field e.seen * 1024 + e.fact

entry_at : (es : Consulted) (i : ℕ) → Named es → i < length es → tight_entry (get_or (map entry_field es) i 0) ≡ get_or (map entry_value es) i 0
entry_at [] i f h = let z : ⊥ = omega arith in absurd z
entry_at (e ∷ es) zero f h = let k = f.0 in omega arith
entry_at (e ∷ es) (suc i) f h = entry_at es i f.1 (omega arith)

entries_below : (es : Consulted) → Named es → Below 4096 (map entry_value es)
entries_below [] f = tt
entries_below (e ∷ es) f = (let k = f.0 in let p = presence_few e.seen in omega arith, entries_below es f.1)

entries_each : (es : Consulted) → Named es → each 12 (map entry_value es) ≡ tight_e es
entries_each [] f = refl
entries_each (e ∷ es) f =
    ap₂ (λ x y. x ++ y) (two 2 10 (presence_field e.seen) e.fact (entry_value e) (presence_few e.seen) f.0 refl) (entries_each es f.1)
    ∙ append_assoc (bits_of 2 (presence_field e.seen)) (bits_of 10 e.fact) (tight_e es)

entries_run : (es : Consulted) (ws : List ℕ) → Named es → list_run (entry_in (pack entry_bits (map entry_field es) ++ ws)) 12 (length es) ≡ tight_e es
unfolding entry_in
entries_run es ws f =
    let vs = map entry_value es in
    let long : length vs ≡ length es = length-map es entry_value in
    ap (list_run (entry_in (pack entry_bits (map entry_field es) ++ ws)) 12) (sym long)
    ∙ list_is (entry_in (pack entry_bits (map entry_field es) ++ ws)) 12 4096 vs
    (λ i h. ap tight_entry (packed_field entry_bits 1 (map entry_field es) ws i refl (narrow_entries es f) (subst (λ n. i < n) (long ∙ sym (length-map es entry_field)) h)) ∙ entry_at es i f (subst (λ n. i < n) long h)) (omega arith) (entries_below es f)
    ∙ entries_each es f

module _ {O : Type 0} (G : O → Type 0) (B : Condition → Type 0) (number : O → ℕ) (small : (o : O) → G o → number o < 65536) where
  pub record_run_lem : (n : ℕ) → n < 65536 → (r : Record O) → length r.log < 4096 → Named r.log → FormOf G B Countable (tree r)
      → record_run (numbered n (encode_r number r)) (length r.log) (1 + words_for 2 (length r.log)) ≡ tight_r number n r
  unfolding record_run
  record_run_lem n h r few f g =
      let es = r.log in
      let m = length es in
      let k = lead_kind number r.body in
      let hk = kind_small number r.body in
      let ws = pack entry_bits (map entry_field es) ++ encode number (tree r) in
      let w = word k (n * 4096 + m) in
      let e₁ : (k * 268435456 + m) / 268435456 ≡ k = omega arith in
      let e₂ : (k * 268435456 + m) % 4096 ≡ m = omega arith in
      let lead : word ((k * 268435456 + m) / 268435456) (n * 4096 + (k * 268435456 + m) % 4096) ≡ w = λ i. word (e₁ i) (n * 4096 + e₂ i) in
      let first : low 16 (w / 65536) ++ low 16 w ≡ bits_of 4 k ++ (bits_of 16 n ++ bits_of 12 m) =
      ap₂ (λ x y. x ++ y) (low_is 16 (w / 65536) (omega arith)) (low_of 16 w)
      ∙ sym (two 16 16 (w / 65536) (w % 65536) w (omega arith) (omega arith) (omega arith))
      ∙ two 4 28 k (n * 4096 + m) w hk (omega arith) refl
      ∙ ap (λ l. bits_of 4 k ++ l) (two 16 12 n m (n * 4096 + m) h few refl) in
      let past : drop (1 + words_for 2 m) (w ∷ ws) ≡ encode number (tree r) =
      ap (λ i. drop i (w ∷ ws)) (let z : 1 + words_for 2 m ≡ suc (words_for 2 m) = omega arith in z)
      ∙ drop_at (pack entry_bits (map entry_field es)) (encode number (tree r)) (words_for 2 m) (length_pack entry_bits (map entry_field es) ∙ ap (words_for 2) (length-map es entry_field)) in
      let x = tight_e es ++ tight number (tree r) in
      ap (λ v. low 16 (v / 65536) ++ (low 16 v ++ (list_run (entry_in ws) 12 m ++ flat (drop (1 + words_for 2 m) (v ∷ ws)) 0))) lead
      ∙ ap₂ (λ y z. low 16 (w / 65536) ++ (low 16 w ++ (y ++ z))) (entries_run es (encode number (tree r)) f) (ap (λ l. flat l 0) past ∙ sheet_run G B number small (tree r) g)
      ∙ sym (append_assoc (low 16 (w / 65536)) (low 16 w) x)
      ∙ ap (λ l. l ++ x) first
      ∙ append_assoc (bits_of 4 k) (bits_of 16 n ++ bits_of 12 m) x
      ∙ ap (λ l. bits_of 4 k ++ l) (append_assoc (bits_of 16 n) (bits_of 12 m) x)

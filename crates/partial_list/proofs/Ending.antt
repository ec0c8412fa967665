-- The end of a list: what is kept is put before what is pending. Assumes nothing.
use mathlib.Core.Path.{◌≡◌, refl, sym, ◌∙◌, ap, ap₂}
use mathlib.Core.Bool.{true, false}
use mathlib.Core.Option.{Option, none, some}
use Rattle.std.specs.Prelude.{Some}
use mathlib.Core.List.{List, [], ◌∷◌, ◌++◌, append-nil}
use Prim.Native.Nat.{ℕ, zero, suc, ◌+◌, ◌-◌}
use native.Mathlib.Omega.{arith}
use lib.ListN.{length, take, drop}
use Rattle.model.specs.Facts.{Table}
use Rattle.model.specs.Levels.{OutcomeTable}
use Rattle.model.specs.Decision.{Permit, Denial, permits}
use Rattle.model.specs.Decision.{Decision as Decided}
use Rattle.model.specs.Writing.{word, count}
use Rattle.model.specs.Products.{Outcome, join_permit, encode_d, encodes}
use Rattle.decision.specs.Meaning.{decision_of, Sound}
use Rattle.decision.specs.declared.Decision.{Decision}
use Rattle.evaluate.specs.Folding.{any_of}
use Rattle.evaluate.proofs.Arms.{decides, decides_as}
use Rattle.sizes.specs.Laid.{capped}
use Rattle.sizes.specs.LaidLaws.{laid_as}
use Rattle.residual.specs.Weight.{weight_d, weights}
use Rattle.residual.specs.Answers.{NodeLaid, ListPut}
use Rattle.partial_list.specs.declared.Reduced.TheVariants.{Pending}
use Rattle.partial_list.specs.declared.ListKind.{ListKind}
use Rattle.partial_list.specs.declared.ListKind.TheVariants.{All, Any}
use Rattle.partial_list.specs.declared.Sofar.{Sofar}
use Rattle.partial_list.specs.Keeping.{Walked, as_decisions, value_by, kept_of, nodes_of, list_kind, weights_d, encodes_d}
use Rattle.partial_list.specs.KeepingLaws.{list_weight, list_words}
use Rattle.partial_list.specs.Within.{LaidWithin}
use Rattle.partial_list.specs.WithinLaws.{within_as}
use Rattle.partial_list.specs.Answers.{Decides, sofar_of, Bounded, SofarIs, NodesEnd, ListEnds}
use Rattle.partial_list.proofs.Adding.{clash}

-- ---- which nodes are kept
some_permit : (g : Option OutcomeTable) (p : Permit Outcome) (ps : List (Permit Outcome)) → decides (any_of g (some (permits p)) (as_decisions ps)) ≡ true
some_permit g p [] = refl
some_permit g p (q ∷ ps) = some_permit g (join_permit g p q) ps

-- Of the arms that were resolved the permits, or of an Any without them its first deny, which is the decision so far.
module _ (T : Table) (W buf : List ℕ) (g : Option OutcomeTable) where
  kept_permits : (d : Decision) (ps : List (Permit Outcome)) (first : Option (Denial Outcome)) → Decides T W buf (Some d) (value_by Any g (kept_of ps first)) → d.permit ≡ true → as_decisions ps ≡ kept_of ps first
  kept_permits d [] none s p = refl
  kept_permits d [] (some c) s p = clash d.permit p (sym (decides_as W T buf d) ∙ ap decides s.decision_is)
  kept_permits d (q ∷ ps) first s p = refl

  kept_deny : (d : Decision) (ps : List (Permit Outcome)) (first : Option (Denial Outcome)) → Decides T W buf (Some d) (value_by Any g (kept_of ps first)) → d.permit ≡ false →
      (kept_of ps first ≡ decision_of W T buf d ∷ []) × (as_decisions ps ≡ []) × Sound W buf d
  kept_deny d [] none s p = absurd s
  kept_deny d [] (some c) s p = (ap (λ D. D ∷ []) (sym s.decision_is), refl, s.sound)
  kept_deny d (q ∷ ps) first s p = clash d.permit (sym (decides_as W T buf d) ∙ ap decides s.decision_is ∙ some_permit g q ps) p

module _ {T : Table} {W : List ℕ} {v : Sofar} {buf : List ℕ} (b : Bounded v) where
  kept_so : {kind : ListKind} (front : List ℕ) → ((g : Option OutcomeTable) (k : Walked) (out : List ℕ) → SofarIs kind g T W k v buf front out → as_decisions k.permitted ≡ nodes_of kind k) → NodesEnd kind T W v buf front front v
  kept_so front f = record {
    bounds = b;
    size_is = refl;
    arms_most = omega arith;
    nodes = λ g k out s. record {
      laid = laid_as (ap weights_d (f g k out s)) (ap encodes_d (f g k out s)) s.nodes;
      arms_are = s.arms_are ∙ ap (λ (ds : List (Decided Outcome)). length ds + count k.pend) (f g k out s);
      more = omega arith;
    };
  }

  pub end_all : (front : List ℕ) → NodesEnd All T W v buf front front v
  end_all front = kept_so front (λ g k out s. refl)

  pub end_permits : (d : Decision) (front : List ℕ) → v.decision ≡ Some d → d.permit ≡ true → NodesEnd Any T W v buf front front v
  end_permits d front n p = kept_so front (λ g k out s. kept_permits T W buf g d k.permitted k.denied (rw n at s.decided) p)

  pub end_denies : (d : Decision) (front front' buf' : List ℕ) (kept arms : ℕ) → v.decision ≡ Some d → d.permit ≡ false → arms ≡ v.arms + 1 → NodeLaid W T d buf buf' front' kept →
      NodesEnd Any T W v buf front front' (sofar_of v.decision kept v.size arms v.pending)
  end_denies d front front' buf' kept arms n p a l = record {
    bounds = record { few = b.few; kept_most = l.bound; size_most = b.size_most; size_some = b.size_some };
    size_is = refl;
    arms_most = omega arith;
    nodes = λ g k out s.
        let both = kept_deny T W buf g d k.permitted k.denied (rw n at s.decided) p in
        let D = decision_of W T buf d in
        record {
          laid = laid_as (let z : weight_d D ≡ weights_d (D ∷ []) = omega arith in z ∙ ap weights_d (sym both.0)) (sym (append-nil (encode_d D)) ∙ ap encodes_d (sym both.0)) (l.laid both.2);
          arms_are = omega (arith, s.arms_are, ap (λ (ds : List (Decided Outcome)). length ds) both.1, ap (λ (ds : List (Decided Outcome)). length ds) both.0);
          more = omega (arith, s.nodes.size_is, ap weights_d both.1);
        };
  }

-- ---- a list
-- The words after the first.
after_free : (out ws : List ℕ) (free n : ℕ) → take n out ≡ free ∷ ws → take (n - 1) (drop 1 out) ≡ ws
after_free [] ws free zero e = cc
after_free [] ws free (suc n) e = cc
after_free (x ∷ out) ws free zero e = cc
after_free (x ∷ out) ws free (suc n) e = ap (λ i. take i out) (let z : suc n - 1 ≡ n = omega arith in z) ∙ ap (drop 1) e

module _ {kind : ListKind} {T : Table} {W : List ℕ} {v : Sofar} {buf front front' out out' : List ℕ} {whole : Sofar} {first size : ℕ}
    (n : NodesEnd kind T W v buf front front' whole) (is : first ≡ word (list_kind kind) whole.arms) (l : ListPut first front' whole.kept whole.size out out' size)
    (front_long : length front' ≡ length front) (out_long : length out' ≡ length out) where
  list_laid : (g : Option OutcomeTable) (k : Walked) → SofarIs kind g T W k v buf front out → LaidWithin (length front) (weights_d (nodes_of kind k) + (1 + weights k.pend))
      (word (list_kind kind) whole.arms ∷ (encodes_d (nodes_of kind k) ++ encodes k.pend)) out' size
  list_laid g k s =
      let m = n.nodes g k out s in
      let e : size ≡ capped (weights_d (nodes_of kind k) + (1 + weights k.pend)) = omega (arith, l.size_is, n.size_is, m.laid.size_is, s.left.size_is) in
      record {
        size_is = e;
        laid = λ h. record {
          size_is = e;
          front = λ few fits.
              let sum : size ≡ whole.kept + whole.size = omega (arith, l.size_is) in
              l.put few (omega arith) (omega arith)
              ∙ ap₂ (λ w us. w ∷ (us ++ take (whole.size - 1) (drop 1 out))) is (m.laid.front (omega arith) (omega arith))
              ∙ ap (λ us. word (list_kind kind) whole.arms ∷ (encodes_d (nodes_of kind k) ++ us))
              (after_free out (encodes k.pend) s.free whole.size
              (ap (λ i. take i out) n.size_is ∙ (s.left.laid (omega (arith, n.size_is, m.more))).front (omega (arith, n.size_is)) (omega (arith, n.size_is))));
        };
      }

  pub end_pending : {buf' : List ℕ} → v.pending ≡ true → ListEnds kind T W v buf front out buf' out' (Pending size)
  end_pending p = record {
    fit = omega (arith, l.size_is);
    resolved_is = λ q. clash v.pending p q;
    pending_is = λ _ g k s. within_as (sym (list_weight kind (nodes_of kind k) k.pend)) (sym (list_words kind (nodes_of kind k) k.pend whole.arms (n.nodes g k out s).arms_are)) (list_laid g k s);
  }

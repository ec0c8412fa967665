-- Every record on the way from a sheet takes at most three times the tree's words and 513 more, and is one that the next call reads.
use Rattle.std.specs.Prelude.{List, [], ◌∷◌, ℕ, ◌+◌, ◌*◌, ◌≤◌, ◌<◌}
use Rattle.std.proofs.Common.{arith}
use Rattle.model.specs.Facts.{Table}
use Rattle.model.specs.Outcome.{Outcomes}
use Rattle.model.specs.Condition.{Condition, always, never, has, not_c, all_c, any_c, Conditions, cnil, ccons}
use Rattle.model.specs.Policy.{Policy, permit, deny, grant, all, any, or_else, stored, Policies, pnil, pcons}
use Rattle.model.specs.Partial.{ReducedPolicy, resolved, pending, Order}
use Rattle.model.specs.Consulted.{Consulted, once}
use Rattle.model.specs.Record.{Record, tree, evaluated, reduced, narrowed_from, narrowed, completed_from}
use Rattle.laws.specs.Each.{EachC, EachCs, Each, Eachs}
use Rattle.laws.specs.Size.{words, words_r}
use Rattle.laws.specs.Form.{FormC, FormCs, FormOf, FormsOf, Few, FewRepeats, Form, depth}
use Rattle.staging.proofs.SizeLaws.{most, eval_words, red_most, words_most, most_words_lem}
use Rattle.staging.proofs.FormLaws.{form_eval, form_red, depth_red}
use Rattle.staging.proofs.ConsultedLaws.{Good, good_once, good_read, good_walk, log_length}
use Rattle.staging.specs.Chain.{Step, run}

-- A tree of good form names facts below 1,024.
mutual
  small_c : (c : Condition) → FormC c → EachC (λ f. f < 1024) c
  small_c always h = tt
  small_c never h = tt
  small_c (has f) h = h
  small_c (not_c c) h = small_c c h
  small_c (all_c cs) h = small_cs cs h.1
  small_c (any_c cs) h = small_cs cs h.1

  small_cs : (cs : Conditions) → FormCs cs → EachCs (λ f. f < 1024) cs
  small_cs cnil h = tt
  small_cs (ccons c cs) h = (small_c c h.0, small_cs cs h.1)

module _ {O : Type 0} (G : O → Type 0) (B : Condition → Type 0) (R : List ℕ → Type 0) where
  mutual
    pub small_t : (t : Policy O) → FormOf G B R t → Each (λ f. f < 1024) t
    small_t (permit o) h = tt
    small_t deny h = tt
    small_t (grant g c) h = small_c c h.1
    small_t (all ts) h = small_ts ts h.1
    small_t (any ts) h = small_ts ts h.1
    small_t (or_else a b) h = (small_t a h.0, small_t b h.1)
    small_t (stored d) h = tt

    small_ts : (ts : Policies O) → FormsOf G B R ts → Eachs (λ f. f < 1024) ts
    small_ts pnil h = tt
    small_ts (pcons t ts) h = (small_t t h.0, small_ts ts h.1)

depth_pos : {O : Type 0} (t : Policy O) → 1 ≤ depth t
depth_pos (permit o) = omega arith
depth_pos deny = omega arith
depth_pos (grant g c) = omega arith
depth_pos (all ts) = omega arith
depth_pos (any ts) = omega arith
depth_pos (or_else a b) = omega arith
depth_pos (stored d) = omega arith

-- What the next call, and the output, ask of a record: the tree's bound n, its form, its nesting d, and the consulted list.
pub record Fit {O : Type 0} (G : O → Type 0) (n d : ℕ) (r : Record O) : Type 0 where
  pub small : most (tree r) ≤ n
  pub form : Form G (tree r)
  pub deep : depth (tree r) ≤ d
  pub consulted : Good (λ f. f < 1024) r.log

module _ (L : Outcomes) (G : L.O → Type 0) (meets : (a b : L.O) → G a → G b → G (L.meet a b)) (joins : (a b : L.O) → G a → G b → G (L.join a b)) where
  module _ (n d : ℕ) where
    pub fit_narrow_body : (o : Order) (P : Table) (b : ReducedPolicy L.O) (l : Consulted) → Fit G n d (record { body = b; log = l }) → Fit G n d (narrowed_from L o P b l)
    fit_narrow_body o P (resolved e) l h = h
    fit_narrow_body o P (pending t) l h =
        record {
          small = omega (arith, red_most L o P t, h.small);
          form = form_red L G meets joins o P t h.form;
          deep = omega (arith, depth_red L o P t, h.deep);
          consulted = good_walk (λ f. f < 1024) L o P t (once l) (small_t G Few FewRepeats t h.form) (good_once (λ f. f < 1024) l h.consulted.1);
        }

    pub fit_complete_body : (K : Table) (b : ReducedPolicy L.O) (l : Consulted) → Fit G n d (record { body = b; log = l }) → Fit G n d (completed_from L K b l)
    fit_complete_body K (resolved e) l h = h
    fit_complete_body K (pending t) l h =
        record {
          small = omega (arith, eval_words L K t, h.small);
          form = form_eval L G meets joins K t h.form;
          deep = omega (arith, depth_pos t, h.deep);
          consulted = good_read (λ f. f < 1024) L K t (once l) (small_t G Few FewRepeats t h.form) (good_once (λ f. f < 1024) l h.consulted.1);
        }

    pub fit_run : (r : Record L.O) (ss : List Step) → Fit G n d r → Fit G n d (run L r ss)
    fit_run r [] h = h
    fit_run r (s ∷ ss) h = fit_run (narrowed L s.order s.table r) ss (fit_narrow_body s.order s.table r.body r.log h)

  pub fit_reduce : (o : Order) (P : Table) (t : Policy L.O) → Form G t → Fit G (most t) (depth t) (reduced L o P t)
  fit_reduce o P t h =
      record {
        small = red_most L o P t;
        form = form_red L G meets joins o P t h;
        deep = depth_red L o P t;
        consulted = good_walk (λ f. f < 1024) L o P t [] (small_t G Few FewRepeats t h) (tt, tt);
      }

  pub fit_evaluate : (K : Table) (t : Policy L.O) → Form G t → Fit G (most t) (depth t) (evaluated L K t)
  fit_evaluate K t h =
      record {
        small = eval_words L K t;
        form = form_eval L G meets joins K t h;
        deep = depth_pos t;
        consulted = good_read (λ f. f < 1024) L K t [] (small_t G Few FewRepeats t h) (tt, tt);
      }

  fit_words : (t : Policy L.O) (d : ℕ) (r : Record L.O) → Fit G (most t) d r → words_r r ≤ 3 * words t + 513
  fit_words t d r h = omega (arith, words_most (tree r), h.small, most_words_lem t, log_length r.log h.consulted)

  -- Of a tree of good form, nested at most 32 deep: the record of each call of a list of calls, whatever the tables say,
  -- takes at most three times the tree's words and 513, and is of good form, nested at most 32 deep.
  pub record RoomFor (t : Policy L.O) (r : Record L.O) : Type 0 where
    pub room : words_r r ≤ 3 * words t + 513
    pub good : Form G (tree r)
    pub nested : depth (tree r) ≤ 32
    pub entries : Good (λ f. f < 1024) r.log

  pub roomy : (t : Policy L.O) (r : Record L.O) → depth t ≤ 32 → Fit G (most t) (depth t) r → RoomFor t r
  roomy t r d h = record { room = fit_words t (depth t) r h; good = h.form; nested = omega (arith, h.deep); entries = h.consulted }

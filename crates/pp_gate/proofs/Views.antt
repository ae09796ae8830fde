-- The fold over a log, and what holds at each step of a run of operations.
use Rattle.std.proofs.Common.{◌≡◌, inl, inr, Bool, true, false, List, [], ◌∷◌, ◌++◌, Option, Some, refl, sym, ◌∙◌, ap, subst, append_assoc}
use Rattle.std.proofs.lemmas.List.{append-nil}
use Rattle.std.specs.Prelude.{fold, Result, Ok, Err, is_ok, OnOk}
use Rattle.std.proofs.lemmas.List.Sums.{fold-append}
use Rattle.pp_world.specs.declared.happening.Happening.{Happening}
use Rattle.pp_world.specs.declared.happening.Happening.TheVariants.{Began, Did}
use Rattle.pp_world.specs.declared.op.DiskOp.{DiskOp}
use Rattle.pp_world.specs.declared.disk.DiskFault.{DiskFault}
use Rattle.pp_world.specs.Log.{Log, AppendsAll, Told}
use Rattle.pp_world.specs.Disk.{Bytes, View, view_after, view_of, woken, op_happenings, began, done}
use Rattle.pp_gate.specs.Runs.{Ran, RunsOps, AtEach, EachMoment, During}

-- the view of a name, from some view on
abbrev pub view_from : Bytes → View → Log → View
view_from name v log = fold (view_after name) v log

pub view_of-append : (name : Bytes) (k l : Log) → view_of name (k ++ l) ≡ view_from name (view_of name k) l
unfolding view_of
view_of-append name k l = fold-append (view_after name) (woken name []) k l

-- the view once all were done
abbrev pub done_view : Bytes → View → List DiskOp → View
done_view name v [] = v
done_view name v (op ∷ ops) = done_view name (done name op (began name op v)) ops

pub ran_to : (name : Bytes) (v : View) (ops : List DiskOp) (hs : Log) → Ran ops true hs → view_from name v hs ≡ done_view name v ops
ran_to name v [] hs ran = ap (view_from name v) ran.1
ran_to name v (op ∷ ops) hs (inl failed) = absurd (cc)
ran_to name v (op ∷ ops) hs (inr ran) =
    ap (view_from name v) ran.1
    ∙ ran_to name (done name op (began name op v)) ops ran.0 ran.2

module _ (name : Bytes) (Q : View → Type 0) where
  two_more : (v : View) (a b : Happening) (rest p q : Log) → a ∷ b ∷ rest ≡ p ++ q
      → Q v → Q (view_after name v a) → ((p' : Log) → rest ≡ p' ++ q → Q (view_from name (view_after name (view_after name v a) b) p'))
      → Q (view_from name v p)
  two_more v a b rest [] q is none one more = none
  two_more v a b rest (h ∷ []) q is none one more =
      let same : a ≡ h = cc in
      subst Q (ap (view_after name v) same) one
  two_more v a b rest (h ∷ k ∷ p) q is none one more =
      let first : a ≡ h = cc in
      let second : b ≡ k = cc in
      let others : rest ≡ p ++ q = cc in
      subst Q
      (ap (λ (w : View). view_from name w p) (ap (λ (x : Happening). view_after name (view_after name v x) b) first ∙ ap (view_after name (view_after name v h)) second))
      (more p others)

  nil_front : (p q : Log) → [] ≡ p ++ q → [] ≡ p
  nil_front [] q is = refl
  nil_front (h ∷ p) q is = absurd (cc)

  pub each_from : (v : View) (ops : List DiskOp) (ok : Bool) (hs p q : Log) → During name v ops Q → Ran ops ok hs → hs ≡ p ++ q → Q (view_from name v p)
  each_from v [] ok hs p q during ran is =
      subst Q (ap (view_from name v) (nil_front p q (sym ran.1 ∙ is))) during
  each_from v (op ∷ ops) ok hs p q during (inl failed) is =
      two_more v (Began op) (Did op false) [] p q (sym failed.1 ∙ is) during.0 during.1
      (λ p' rest. subst Q (ap (view_from name _) (nil_front p' q rest)) during.2)
  each_from v (op ∷ ops) ok hs p q during (inr ran) is =
      two_more v (Began op) (Did op true) ran.0 p q (sym ran.1 ∙ is) during.0 during.1
      (λ p' rest. each_from (done name op (began name op v)) ops ok ran.0 p' q during.3 ran.2 rest)

-- what holds at each step of the operations holds at each moment of the run
pub at_each : (name : Bytes) (Q : View → Type 0) (k : Log) (ops : List DiskOp) (ok : Bool) (hs : Log) → During name (view_of name k) ops Q → Ran ops ok hs → AtEach k hs (λ l. Q (view_of name l))
at_each name Q k ops ok hs during ran = record {
  at = λ p q is. subst Q (sym (view_of-append name k p)) (each_from name Q (view_of name k) ops ok hs p q during ran is);
}

-- the operations of a run, one call more
ran_append : (front : List DiskOp) (hs : Log) (op : DiskOp) → Ran front true hs → Ran (front ++ op ∷ []) true (hs ++ Began op ∷ Did op true ∷ [])
ran_append [] hs op ran = inr ([], ap (λ (l : Log). l ++ Began op ∷ Did op true ∷ []) ran.1, (refl, refl))
ran_append (a ∷ front) hs op (inl failed) = absurd (cc)
ran_append (a ∷ front) hs op (inr ran) = inr (ran.0 ++ Began op ∷ Did op true ∷ [], ap (λ (l : Log). l ++ Began op ∷ Did op true ∷ []) ran.1, ran_append front ran.0 op ran.2)

ran_failed : (front : List DiskOp) (hs : Log) (op : DiskOp) (ops : List DiskOp) → Ran front true hs → Ran (front ++ op ∷ ops) false (hs ++ Began op ∷ Did op false ∷ [])
ran_failed [] hs op ops ran = inl (refl, ap (λ (l : Log). l ++ Began op ∷ Did op false ∷ []) ran.1)
ran_failed (a ∷ front) hs op ops (inl failed) = absurd (cc)
ran_failed (a ∷ front) hs op ops (inr ran) = inr (ran.0 ++ Began op ∷ Did op false ∷ [], ap (λ (l : Log). l ++ Began op ∷ Did op false ∷ []) ran.1, ran_failed front ran.0 op ops ran.2)

pub runs_none : (log : Option Log) → RunsOps log log [] true
runs_none log = record { was = λ l is. (l, [], is, sym (append-nil l), (refl, refl)) }

pub runs_more : (old mid new : Option Log) (front : List DiskOp) (op : DiskOp) → RunsOps old mid front true → AppendsAll mid new (λ l. (Began op ∷ Did op true ∷ [])) → RunsOps old new (front ++ op ∷ []) true
runs_more old mid new front op so_far call = record {
  was = λ l is.
      let later = call.was l is in
      let earlier = so_far.was later.0 later.1 in (
        earlier.0,
        earlier.1 ++ Began op ∷ Did op true ∷ [],
        earlier.2,
        later.2 ∙ ap (λ (m : Log). m ++ Began op ∷ Did op true ∷ []) earlier.3 ∙ append_assoc earlier.0 earlier.1 (Began op ∷ Did op true ∷ []),
        ran_append front earlier.1 op earlier.4,
      );
}

pub runs_failed : (old mid new : Option Log) (front : List DiskOp) (op : DiskOp) (ops : List DiskOp) → RunsOps old mid front true → AppendsAll mid new (λ l. (Began op ∷ Did op false ∷ [])) → RunsOps old new (front ++ op ∷ ops) false
runs_failed old mid new front op ops so_far call = record {
  was = λ l is.
      let later = call.was l is in
      let earlier = so_far.was later.0 later.1 in (
        earlier.0,
        earlier.1 ++ Began op ∷ Did op false ∷ [],
        earlier.2,
        later.2 ∙ ap (λ (m : Log). m ++ Began op ∷ Did op false ∷ []) earlier.3 ∙ append_assoc earlier.0 earlier.1 (Began op ∷ Did op false ∷ []),
        ran_failed front earlier.1 op ops earlier.4,
      );
}

-- what is known of a name after a run
pub told_after : (old new : Option Log) (ops : List DiskOp) (name : Bytes) (P Q : View → Type 0) → Told old (λ l. P (view_of name l)) → RunsOps old new ops true
    → ((v : View) → P v → Q (done_view name v ops)) → Told new (λ l. Q (view_of name l))
told_after old new ops name P Q told runs step = record {
  at = λ l is.
      let w = runs.was l is in
      subst Q
      (sym (ap (view_of name) w.3 ∙ view_of-append name w.0 w.1 ∙ ran_to name (view_of name w.0) ops w.1 w.4))
      (step (view_of name w.0) (told.at w.0 w.2));
}

cancel : (k a b : Log) → k ++ a ≡ k ++ b → a ≡ b
cancel [] a b is = is
cancel (h ∷ k) a b is = let rest : k ++ a ≡ k ++ b = cc in cancel k a b rest

-- what a run appended is what stands behind the old log
pub runs_at : (old new : Option Log) (ops : List DiskOp) (ok : Bool) (k hs : Log) → RunsOps old new ops ok → old ≡ Some k → new ≡ Some (k ++ hs) → Ran ops ok hs
runs_at old new ops ok k hs runs was is =
    let w = runs.was (k ++ hs) is in
    let same_old : w.0 ≡ k = cc in
    let same_log : k ++ hs ≡ k ++ w.1 = w.3 ∙ ap (λ (m : Log). m ++ w.1) same_old in
    subst (Ran ops ok) (sym (cancel k hs w.1 same_log)) w.4

-- and at each moment of it
pub moments : (old new : Option Log) (ops : List DiskOp) (ok : Bool) (name : Bytes) (P : View → Type 0) (Q : View → View → Type 0) → Told old (λ l. P (view_of name l)) → RunsOps old new ops ok
    → ((v : View) → P v → During name v ops (Q v)) → EachMoment old new (λ k l. Q (view_of name k) (view_of name l))
moments old new ops ok name P Q told runs step = record {
  at = λ k hs was is. at_each name (Q (view_of name k)) k ops ok hs (step (view_of name k) (told.at k was)) (runs_at old new ops ok k hs runs was is);
}

-- one call, or one more after others that were done
pub runs_last : (old mid new : Option Log) (front : List DiskOp) (op : DiskOp) (r : Result (Unit {0}) DiskFault) → RunsOps old mid front true → AppendsAll mid new (λ l. (op_happenings op r)) → RunsOps old new (front ++ op ∷ []) (is_ok r)
runs_last old mid new front op (Ok a) so_far call = runs_more old mid new front op so_far call
runs_last old mid new front op (Err e) so_far call = runs_failed old mid new front op [] so_far call

pub runs_one : (old new : Option Log) (op : DiskOp) (r : Result (Unit {0}) DiskFault) → AppendsAll old new (λ l. (op_happenings op r)) → RunsOps old new (op ∷ []) (is_ok r)
runs_one old new op r call = runs_last old old new [] op r (runs_none old) call

pub on_ok : {A E : Type 0} (old new : Option Log) (ops : List DiskOp) (r : Result A E) (X : Type 0) → RunsOps old new ops (is_ok r) → (RunsOps old new ops true → X) → OnOk r X
on_ok old new ops (Ok a) X runs then = then runs
on_ok old new ops (Err e) X runs then = tt

pub told_map : (log : Option Log) (P Q : Log → Type 0) → Told log P → ((l : Log) → P l → Q l) → Told log Q
told_map log P Q told step = record { at = λ l is. step l (told.at l is) }

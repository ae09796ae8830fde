-- What fits of a reply, and that it stays so while clients and rows change.
use Rattle.std.proofs.Common.{◌≡◌, ℕ, ◌<◌, ◌≤◌, Bool, true, false, List, map, filter, Some, None, sym, subst, ◌∙◌, lt_of_lt_of_le, arith}
use Rattle.pp_valid.specs.declared.version.Version.{Version}
use Rattle.pp_law.specs.Deciding.{span_of}
use Rattle.pp_law.specs.Lists.{change}
use Rattle.pp_law.specs.Requests.{Front, Parsed, IsRequest}
use Rattle.pp_law.specs.Stages.{is_passing}
use Rattle.pp_law.specs.State.{State, Answering, Client, Instance, Reply}
use Rattle.pp_laws.specs.Runs.{IsIn}
use Rattle.pp_laws.proofs.Lists.{Changed, From, in_change, in_filter, in_map, other, same}
use Rattle.pp_laws_replies.specs.ByRow.{is_by_row}
use Rattle.pp_laws_replies.proofs.ByRowLemmas.{SpanOf}
use Rattle.pp_laws_replies.proofs.Quiet.{FactsOf, FromClient, FromRow, Quietly, facts_of, new_row, old_row}

-- ---- a reply

-- one that has not begun is passed, or is read from a version; either shows the span of its decision
pub data Choice (instances : List Instance) (next : ℕ) (f : Front) (r : Reply) : Type 0 where
  to_pass : is_passing r.decision ≡ true → r.source ≡ None → r.at ≡ (span_of r.decision).0 → r.to ≡ (span_of r.decision).1 → Choice instances next f r
  to_show : (q : Parsed) → f ≡ IsRequest q → is_by_row r.decision ≡ true → (v : Version) → SpanOf q.head v r.decision → r.at ≡ (span_of r.decision).0 → r.to ≡ (span_of r.decision).1
      → (id : ℕ) → r.source ≡ Some id → id < next → ((x : Instance) → IsIn x instances → x.id ≡ id → x.version ≡ v) → Choice instances next f r

pub record Fit (instances : List Instance) (next : ℕ) (f : Front) (r : Reply) : Type 0 where
  pub chosen : r.has_begun ≡ false → Choice instances next f r
  pub given : (id : ℕ) → r.source ≡ Some id → id < next
  pub within : (id : ℕ) (x : Instance) → r.source ≡ Some id → IsIn x instances → x.id ≡ id → r.to ≤ x.version.length

abbrev pub FitsIn : List Instance → ℕ → Client → Type 0
FitsIn instances next c = (r : Reply) → c.stage ≡ Answering r → Fit instances next c.front r

abbrev pub AllFit : State → Type 0
AllFit s = (c : Client) → IsIn c s.clients → FitsIn s.instances s.next_instance c

pub data Fits (s : State) : Type 0 where
  fits : AllFit s → Fits s

pub all_of : {s : State} → Fits s → AllFit s
all_of (fits all) = all

-- ---- rows

same_version : (rows : List Instance) (next : ℕ) (x : Instance) (id : ℕ) (v : Version) → id < next → ((y : Instance) → IsIn y rows → y.id ≡ id → y.version ≡ v) → x.id ≡ id → FromRow rows next x → x.version ≡ v
same_version rows next x id v lt versions is (old_row y i alike version) = version ∙ versions y i (sym alike ∙ is)
same_version rows next x id v lt versions is (new_row le) = let eq : x.id ≡ id = is in absurd (omega arith)

same_end : (rows : List Instance) (next : ℕ) (x : Instance) (id to : ℕ) → id < next → ((y : Instance) → IsIn y rows → y.id ≡ id → to ≤ y.version.length) → x.id ≡ id → FromRow rows next x → to ≤ x.version.length
same_end rows next x id to lt ends is (old_row y i alike version) = subst (λ (v : Version). to ≤ v.length) (sym version) (ends y i (sym alike ∙ is))
same_end rows next x id to lt ends is (new_row le) = let eq : x.id ≡ id = is in absurd (omega arith)

choice_on : (rows : List Instance) (next : ℕ) (instances : List Instance) (next2 : ℕ) (f : Front) (r : Reply) → ((x : Instance) → IsIn x instances → FromRow rows next x) → next ≤ next2 → Choice rows next f r → Choice instances next2 f r
choice_on rows next instances next2 f r from le (to_pass is none at to) = to_pass is none at to
choice_on rows next instances next2 f r from le (to_show q front by v span at to id source lt versions) =
    to_show q front by v span at to id source (lt_of_lt_of_le lt le) (λ x i is. same_version rows next x id v lt versions is (from x i))

fit_on : (rows : List Instance) (next : ℕ) (instances : List Instance) (next2 : ℕ) (f : Front) (r : Reply) → ((x : Instance) → IsIn x instances → FromRow rows next x) → next ≤ next2 → Fit rows next f r → Fit instances next2 f r
fit_on rows next instances next2 f r from le h = record {
  chosen = λ off. choice_on rows next instances next2 f r from le (h.chosen off);
  given = λ id source. lt_of_lt_of_le (h.given id source) le;
  within = λ id x source i is. same_end rows next x id r.to (h.given id source) (λ y j its. h.within id y source j its) is (from x i);
}

-- ---- a client

-- the same request, or one where there was none
refronted : (instances : List Instance) (next : ℕ) (f g : Front) (r : Reply) → ((q : Parsed) → f ≡ IsRequest q → g ≡ IsRequest q) → Fit instances next f r → Fit instances next g r
refronted instances next f g r front h = record { chosen = λ off. by (h.chosen off); given = h.given; within = h.within }
  where
    by : Choice instances next f r → Choice instances next g r
    by (to_pass is none at to) = to_pass is none at to
    by (to_show q asks by_row v span at to id source lt versions) = to_show q (front q asks) by_row v span at to id source lt versions

pub same_fits : (instances : List Instance) (next : ℕ) (d c : Client) → ((q : Parsed) → c.front ≡ IsRequest q → d.front ≡ IsRequest q) → d.stage ≡ c.stage → FitsIn instances next c → FitsIn instances next d
same_fits instances next d c front stage h r is = refronted instances next c.front d.front r front (h r (sym stage ∙ is))

-- ---- a state

pub quiet_fits : (o s : State) → Quietly o s → Fits o → Fits s
quiet_fits o s quiet h = fits (λ d i r is. by d r is (q.clients_from d i))
  where
    q : FactsOf o s
    q = facts_of quiet

    by : (d : Client) (r : Reply) → d.stage ≡ Answering r → FromClient o.clients d → Fit s.instances s.next_instance d.front r
    by d r is c =
        fit_on o.instances o.next_instance s.instances s.next_instance d.front r q.rows_from q.next
        (same_fits o.instances o.next_instance d c.was (λ p asks. c.is.front ∙ asks) c.is.stage (all_of h c.was c.there) r is)

pub changed_fits : (s : State) (p : Client → Bool) (f : Client → Client) → ((c : Client) → IsIn c s.clients → p c ≡ true → FitsIn s.instances s.next_instance c → FitsIn s.instances s.next_instance (f c)) → Fits s
    → Fits (record s { clients = change p f s.clients })
changed_fits s p f kept h = fits (λ d i. by d (in_change p f d s.clients i))
  where
    by : (d : Client) → Changed p f s.clients d → FitsIn s.instances s.next_instance d
    by d (same i isnt) = all_of h d i
    by d (other c i hit eq) = subst (λ (x : Client). FitsIn s.instances s.next_instance x) (sym eq) (kept c i hit (all_of h c i))

pub mapped_fits : (s : State) (f : Client → Client) → ((c : Client) → IsIn c s.clients → FitsIn s.instances s.next_instance c → FitsIn s.instances s.next_instance (f c)) → Fits s → Fits (record s { clients = map f s.clients })
mapped_fits s f kept h = fits (λ d i. by d (in_map f d s.clients i))
  where
    by : (d : Client) → From f s.clients d → FitsIn s.instances s.next_instance d
    by d r = subst (λ (x : Client). FitsIn s.instances s.next_instance x) (sym r.is) (kept r.was r.there (all_of h r.was r.there))

pub filtered_fits : (s : State) (p : Client → Bool) → Fits s → Fits (record s { clients = filter p s.clients })
filtered_fits s p h = fits (λ c i. all_of h c (in_filter p c s.clients i).0)

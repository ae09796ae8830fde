-- In the law, where the entry of a key is gone: which others stand no more is noted as it was, and a key whose name another took has its entry.
use Rattle.std.proofs.Common.{◌≡◌, refl, sym, subst, ap, ◌∙◌, Bool, true, false, not, ◌||◌, cond, find, is_some, List, [], ◌∷◌, Option, Some, None}
use Rattle.std.proofs.lemmas.Slice.Eq.{bytes_eq-Decides}
use Rattle.std.specs.List.{list_any}
use Rattle.std.specs.Prelude.{bytes_eq}
use Rattle.pp_cache_law.specs.Outdated.{AreNoted}
use Rattle.pp_events_law.specs.Losses.{without_entry}
use Rattle.pp_keeps_law.specs.Stands.{DisplacedOnesAreThere}
use Rattle.pp_law.specs.After.{paid, unread}
use Rattle.pp_law.specs.Lists.{Bytes, has_text, without}
use Rattle.pp_law.specs.Opening.{is_same_phase, lose_in_opening}
use Rattle.pp_law.specs.Replies.{regained}
use Rattle.pp_law.specs.State.{State, Entry, Phase, IsWoken, IsConfigured, IsRooted, IsListed, IsListening, IsStuck, Handling}
use Rattle.pp_law.specs.Store.{close_name, lose_entry, note_gone, remove_entry}
use Rattle.pp_law.specs.Table.{is_entry_of}
use Rattle.pp_target.specs.Name.{name_of}

-- ---- what is left

pub record IsLessOne (s t : State) : Type 0 where
  pub settings : t.settings ≡ s.settings
  pub forgotten : t.forgotten ≡ s.forgotten
  pub evicting : t.is_evicting ≡ s.is_evicting
  pub lost : t.has_lost_draft ≡ s.has_lost_draft

less_then : (s t u : State) → IsLessOne s t → IsLessOne t u → IsLessOne s u
less_then s t u one two = record { settings = two.settings ∙ one.settings; forgotten = two.forgotten ∙ one.forgotten; evicting = two.evicting ∙ one.evicting; lost = two.lost ∙ one.lost }

-- ---- a name is closed

pub closes_so : (name : Bytes) (s : State) → s.phase ≡ Handling → unread name s ≡ paid (close_name name s)
unfolding unread lose_in_opening close_name
closes_so name s at =
    ap (λ (b : Bool). paid (elim b as (λ c. State) [ true ↦ lose_entry name (close_name name s) | false ↦ close_name name s ]))
    (ap (λ (q : Phase). list_any (λ p. is_same_phase p q) (IsWoken ∷ IsConfigured ∷ IsRooted ∷ IsListed ∷ IsListening ∷ IsStuck ∷ [])) at)

pub record HasClosed (s t : State) : Type 0 where
  pub entries : t.entries ≡ s.entries
  pub displaced : t.displaced ≡ s.displaced
  pub less : IsLessOne s t

closed_paid : (name : Bytes) (s : State) → HasClosed s (paid (close_name name s))
unfolding paid regained close_name
closed_paid name s = record { entries = refl; displaced = refl; less = record { settings = refl; forgotten = refl; evicting = refl; lost = refl } }

has_closed : (name : Bytes) (s : State) → s.phase ≡ Handling → HasClosed s (unread name s)
has_closed name s at =
    let was : HasClosed s (paid (close_name name s)) = closed_paid name s in
    let is : unread name s ≡ paid (close_name name s) = closes_so name s at in
    record {
      entries = ap (λ (t : State). t.entries) is ∙ was.entries;
      displaced = ap (λ (t : State). t.displaced) is ∙ was.displaced;
      less = record {
        settings = ap (λ (t : State). t.settings) is ∙ was.less.settings;
        forgotten = ap (λ (t : State). t.forgotten) is ∙ was.less.forgotten;
        evicting = ap (λ (t : State). t.is_evicting) is ∙ was.less.evicting;
        lost = ap (λ (t : State). t.has_lost_draft) is ∙ was.less.lost;
      };
    }

-- ---- an entry is taken out

gone_less : (key : Bytes) (s : State) → IsLessOne s (note_gone key s)
unfolding note_gone remove_entry
gone_less key s = by (find (is_entry_of key) s.entries)
  where
    by : (o : Option Entry) → IsLessOne s (elim o as (λ c. State) [ None ↦ s | Some e ↦ remove_entry e s ])
    by None = record { settings = refl; forgotten = refl; evicting = refl; lost = refl }
    by (Some e) = record { settings = refl; forgotten = refl; evicting = refl; lost = refl }

still_displaced : (k key : Bytes) (displaced : List Bytes) → bytes_eq k key ≡ false → has_text k (without (bytes_eq key) displaced) ≡ has_text k displaced
still_displaced k key [] apart = refl
still_displaced k key (t ∷ ts) apart = by (bytes_eq key t) refl (still_displaced k key ts apart)
  where
    not_it : bytes_eq key t ≡ true → (b : Bool) → bytes_eq t k ≡ b → b ≡ false
    not_it is true f = absurd (let both : true ≡ false = sym ((bytes_eq-Decides k key).1 (sym ((bytes_eq-Decides t k).0 f) ∙ sym ((bytes_eq-Decides key t).0 is))) ∙ apart in cc both)
    not_it is false f = refl

    by : (b : Bool) → bytes_eq key t ≡ b → has_text k (without (bytes_eq key) ts) ≡ has_text k ts → has_text k (cond (not b) (t ∷ without (bytes_eq key) ts) (without (bytes_eq key) ts)) ≡ has_text k (t ∷ ts)
    by true is rest = rest ∙ ap (λ (b : Bool). b || has_text k ts) (sym (not_it is (bytes_eq t k) refl))
    by false isnt rest = ap (λ (b : Bool). bytes_eq t k || b) rest

noted_left : (key : Bytes) (names displaced : List Bytes) (es : List Entry) → AreNoted names displaced es → AreNoted names (without (bytes_eq key) displaced) (without (is_entry_of key) es)
noted_left key names displaced [] noted = tt
noted_left key names displaced (e ∷ es) noted = by (bytes_eq e.key key) refl (noted_left key names displaced es noted.1)
  where
    by : (b : Bool) → bytes_eq e.key key ≡ b → AreNoted names (without (bytes_eq key) displaced) (without (is_entry_of key) es) → AreNoted names (without (bytes_eq key) displaced) (cond (not b) (e ∷ without (is_entry_of key) es) (without (is_entry_of key) es))
    by true is rest = rest
    by false isnt rest = (ap (λ (b : Bool). e.is_stale || b) (still_displaced e.key key displaced isnt) ∙ noted.0, rest)

-- the key itself is among them no more
its_own : (key : Bytes) (ts : List Bytes) → has_text key (without (bytes_eq key) ts) ≡ false
its_own key [] = refl
its_own key (t ∷ ts) = by (bytes_eq key t) refl (its_own key ts)
  where
    not_it : bytes_eq key t ≡ false → (b : Bool) → bytes_eq t key ≡ b → b ≡ false
    not_it isnt true f = absurd (let both : true ≡ false = sym ((bytes_eq-Decides key t).1 (sym ((bytes_eq-Decides t key).0 f))) ∙ isnt in cc both)
    not_it isnt false f = refl

    by : (b : Bool) → bytes_eq key t ≡ b → has_text key (without (bytes_eq key) ts) ≡ false → has_text key (cond (not b) (t ∷ without (bytes_eq key) ts) (without (bytes_eq key) ts)) ≡ false
    by true is rest = rest
    by false isnt rest = ap (λ (b : Bool). b || has_text key (without (bytes_eq key) ts)) (not_it isnt (bytes_eq t key) refl) ∙ rest

found_left : (k key : Bytes) (es : List Entry) → bytes_eq k key ≡ false → is_some (find (is_entry_of k) (without (is_entry_of key) es)) ≡ is_some (find (is_entry_of k) es)
found_left k key [] apart = refl
found_left k key (e ∷ es) apart = by (bytes_eq e.key key) refl (found_left k key es apart)
  where
    not_it : bytes_eq e.key key ≡ true → (b : Bool) → bytes_eq e.key k ≡ b → b ≡ false
    not_it is true f = absurd (let both : true ≡ false = sym ((bytes_eq-Decides k key).1 (sym ((bytes_eq-Decides e.key k).0 f) ∙ (bytes_eq-Decides e.key key).0 is)) ∙ apart in cc both)
    not_it is false f = refl

    at : (c : Bool) → is_some (find (is_entry_of k) (without (is_entry_of key) es)) ≡ is_some (find (is_entry_of k) es) → is_some (cond c (Some e) (find (is_entry_of k) (without (is_entry_of key) es))) ≡ is_some (cond c (Some e) (find (is_entry_of k) es))
    at true rest = refl
    at false rest = rest

    by : (b : Bool) → bytes_eq e.key key ≡ b → is_some (find (is_entry_of k) (without (is_entry_of key) es)) ≡ is_some (find (is_entry_of k) es)
        → is_some (find (is_entry_of k) (cond (not b) (e ∷ without (is_entry_of key) es) (without (is_entry_of key) es))) ≡ is_some (cond (is_entry_of k e) (Some e) (find (is_entry_of k) es))
    by true is rest = rest ∙ sym (ap (λ (c : Bool). is_some (cond c (Some e) (find (is_entry_of k) es))) (not_it is (bytes_eq e.key k) refl))
    by false isnt rest = at (bytes_eq e.key k) rest

there_left : (key : Bytes) (displaced : List Bytes) (es : List Entry) → ((k : Bytes) → has_text k displaced ≡ true → is_some (find (is_entry_of k) es) ≡ true) → (k : Bytes) → has_text k (without (bytes_eq key) displaced) ≡ true
    → is_some (find (is_entry_of k) (without (is_entry_of key) es)) ≡ true
there_left key displaced es there k has = by (bytes_eq k key) refl
  where
    by : (b : Bool) → bytes_eq k key ≡ b → is_some (find (is_entry_of k) (without (is_entry_of key) es)) ≡ true
    by true is = absurd (let both : true ≡ false = sym has ∙ ap (λ (t : Bytes). has_text t (without (bytes_eq key) displaced)) ((bytes_eq-Decides k key).0 is) ∙ its_own key displaced in cc both)
    by false isnt = found_left k key es isnt ∙ there k (sym (still_displaced k key displaced isnt) ∙ has)

gone_noted : (key : Bytes) (names : List Bytes) (s : State) → AreNoted names s.displaced s.entries → AreNoted names (note_gone key s).displaced (note_gone key s).entries
unfolding note_gone remove_entry
gone_noted key names s noted = by (find (is_entry_of key) s.entries)
  where
    by : (o : Option Entry) → AreNoted names (elim o as (λ c. State) [ None ↦ s | Some e ↦ remove_entry e s ]).displaced (elim o as (λ c. State) [ None ↦ s | Some e ↦ remove_entry e s ]).entries
    by None = noted
    by (Some e) = noted_left e.key names s.displaced s.entries noted

gone_there : (key : Bytes) (s : State) → DisplacedOnesAreThere s → DisplacedOnesAreThere (note_gone key s)
unfolding note_gone remove_entry
gone_there key s there = by (find (is_entry_of key) s.entries)
  where
    by : (o : Option Entry) → DisplacedOnesAreThere (elim o as (λ c. State) [ None ↦ s | Some e ↦ remove_entry e s ])
    by None = there
    by (Some e) = there_left e.key s.displaced s.entries there

-- ---- both

pub entry_less : (key : Bytes) (s : State) → s.phase ≡ Handling → IsLessOne s (without_entry key s)
entry_less key s at = less_then s (unread (name_of key) s) (without_entry key s) (has_closed (name_of key) s at).less (gone_less key (unread (name_of key) s))

pub entry_noted : (key : Bytes) (names : List Bytes) (s : State) → s.phase ≡ Handling → AreNoted names s.displaced s.entries → AreNoted names (without_entry key s).displaced (without_entry key s).entries
entry_noted key names s at noted =
    let c : HasClosed s (unread (name_of key) s) = has_closed (name_of key) s at in
    gone_noted key names (unread (name_of key) s)
    (subst (λ (es : List Entry). AreNoted names (unread (name_of key) s).displaced es) (sym c.entries) (subst (λ (ds : List Bytes). AreNoted names ds s.entries) (sym c.displaced) noted))

pub entry_there : (key : Bytes) (s : State) → s.phase ≡ Handling → DisplacedOnesAreThere s → DisplacedOnesAreThere (without_entry key s)
entry_there key s at there =
    let c : HasClosed s (unread (name_of key) s) = has_closed (name_of key) s at in
    gone_there key (unread (name_of key) s)
    (λ k has. ap (λ (es : List Entry). is_some (find (is_entry_of k) es)) c.entries ∙ there k (ap (λ (ds : List Bytes). has_text k ds) (sym c.displaced) ∙ has))

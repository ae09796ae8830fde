-- What stands while a life recovers, behind each happening on a name of its folder: the law has the entries of the folder, and its disk is the log's.
use Rattle.std.proofs.Common.{◌≡◌, refl, sym, subst, ap, ap₂, ◌∙◌, inl, inr, ℕ, Bool, true, false, not, ◌||◌, cond, filter, fold, List, [], ◌∷◌, ◌++◌, append_assoc, length, map, Some, None}
use Rattle.std.proofs.lemmas.List.Sums.{fold-append}
use Rattle.std.specs.List.{list_any}
use Rattle.std.specs.Prelude.{bytes_eq}
use Rattle.pp_conf.specs.Conf.{Settings}
use Rattle.pp_gate.proofs.Views.{view_of-append}
use Rattle.pp_joints_law.proofs.OpenedFresh.{is_old, none_left, open_left}
use Rattle.pp_joints_law.specs.Opened.{IsOpening}
use Rattle.pp_keeps_law.specs.Stands.{HasOpenNames}
use Rattle.pp_law.specs.After.{paid, unread}
use Rattle.pp_law.specs.Entries.{entries_in, entry_in as law_entry}
use Rattle.pp_law.specs.Lists.{Bytes, has_text}
use Rattle.pp_law.specs.Opening.{is_opening, is_same_phase, lose_in_opening}
use Rattle.pp_law.specs.Replies.{regained}
use Rattle.pp_law.specs.State.{State, Agenda, Entry, Phase, no_agenda, IsWoken, IsConfigured, IsRooted, IsListed, IsListening, IsStuck}
use Rattle.pp_law.specs.Store.{close_name, is_named, lose_entry}
use Rattle.pp_laws.specs.Runs.{IsIn}
use Rattle.pp_laws_crash.proofs.Waking.{FromImage, in_entries, in_image}
use Rattle.pp_obeys.specs.Moves.{Leads}
use Rattle.pp_recover.proofs.NameLemmas.{Distinct}
use Rattle.pp_recover.specs.Image.{entry_in}
use Rattle.pp_recover.specs.Opening.{failed_on}
use Rattle.pp_shelf_law.proofs.Names.{name_formed}
use Rattle.pp_shelf_law.proofs.Opened.{PairOf, both, neither, pair_of}
use Rattle.pp_shelf_law.proofs.Recovering.{failed_more, unread_names}
use Rattle.pp_shelf_law.specs.Folder.{disk_of, disk_with}
use Rattle.pp_shelf_law.specs.Opening.{IsOpened, IsRecovering}
use Rattle.pp_shelf_law.specs.Runs.{ran}
use Rattle.pp_store.specs.Kept.{Kept, is_name}
use Rattle.pp_world.specs.Disk.{View, began, done, is_name as is_formed, is_rising, names_in, undone, view_of}
use Rattle.pp_world.specs.Files.{Files, file_of}
use Rattle.pp_world.specs.Log.{Log}
use Rattle.pp_world.specs.declared.happening.Happening.TheVariants.{Began, Did, Unread}
use Rattle.pp_world.specs.declared.op.DiskOp.{DiskOp}
use Rattle.pp_world.specs.declared.op.DiskOp.TheVariants.{Draft, SyncDraft, Publish, Write, Sync, Remove}

-- ---- lists

filter_same : {A : Type 0} (p q : A → Bool) → ((x : A) → p x ≡ q x) → (xs : List A) → filter p xs ≡ filter q xs
filter_same p q each [] = refl
filter_same p q each (x ∷ xs) = ap₂ (λ b ys. cond b (x ∷ ys) ys) (each x) (filter_same p q each xs)

pub in_left : {A : Type 0} (p : A → Bool) (x : A) (xs : List A) → IsIn x xs → p x ≡ true → IsIn x (filter p xs)
in_left p x [] i holds = absurd i
in_left {A} p x (y ∷ ys) (inl eq) holds = subst (λ (b : Bool). IsIn x (cond b (y ∷ filter p ys) (filter p ys))) (sym (ap p (sym eq) ∙ holds)) (inl eq)
in_left {A} p x (y ∷ ys) (inr i) holds = by (p y) (in_left p x ys i holds)
  where
    by : (b : Bool) → IsIn x (filter p ys) → IsIn x (cond b (y ∷ filter p ys) (filter p ys))
    by true rest = inr rest
    by false rest = rest

-- what is left was there, and passes
pub of_left : {A : Type 0} (p : A → Bool) (x : A) (xs : List A) → IsIn x (filter p xs) → IsIn x xs × (p x ≡ true)
of_left p x [] i = absurd i
of_left {A} p x (y ∷ ys) i = by (p y) refl (λ rest. of_left p x ys rest) i
  where
    by : (b : Bool) → p y ≡ b → (IsIn x (filter p ys) → IsIn x ys × (p x ≡ true)) → IsIn x (cond b (y ∷ filter p ys) (filter p ys)) → IsIn x (y ∷ ys) × (p x ≡ true)
    by true is rest (inl eq) = (inl eq, ap p eq ∙ is)
    by true is rest (inr i) = let r = rest i in (inr r.0, r.1)
    by false is rest i = let r = rest i in (inr r.0, r.1)

pub any_in : {A : Type 0} (p : A → Bool) (x : A) (xs : List A) → IsIn x xs → p x ≡ true → list_any p xs ≡ true
any_in p x [] i holds = absurd i
any_in p x (y ∷ ys) (inl eq) holds = ap (λ (b : Bool). b || list_any p ys) (ap p (sym eq) ∙ holds)
any_in p x (y ∷ ys) (inr i) holds = by (p y) (any_in p x ys i holds)
  where
    by : (b : Bool) → list_any p ys ≡ true → (b || list_any p ys) ≡ true
    by true rest = refl
    by false rest = rest

pub none_in : {A : Type 0} (p : A → Bool) (xs : List A) → ((x : A) → IsIn x xs → p x ≡ false) → list_any p xs ≡ false
none_in p [] each = refl
none_in p (x ∷ xs) each = ap₂ (λ (a b : Bool). a || b) (each x (inl refl)) (none_in p xs (λ y i. each y (inr i)))

-- ---- which failed

-- operations by which gates are closed, on this name
abbrev pub ClosesOn : Bytes → DiskOp → Type 0
ClosesOn name (Draft bytes) = ⊥
ClosesOn name SyncDraft = ⊥
ClosesOn name (Publish n) = ⊥
ClosesOn name (Write n at bytes) = n ≡ name
ClosesOn name (Sync n) = n ≡ name
ClosesOn name (Remove n) = ⊥

done_flag : (name n : Bytes) (op : DiskOp) (v : View) → ClosesOn name op → (done n op (began n op v)).failed ≡ v.failed
done_flag name n (Draft b) v bad = absurd bad
done_flag name n SyncDraft v bad = absurd bad
done_flag name n (Publish m) v bad = absurd bad
done_flag name n (Write m at b) v on = refl
done_flag name n (Sync m) v on = refl
done_flag name n (Remove m) v bad = absurd bad

lost_flag : (name n : Bytes) (op : DiskOp) (v : View) → ClosesOn name op → (undone n op (began n op v)).failed ≡ (v.failed || bytes_eq name n)
lost_flag name n (Draft b) v bad = absurd bad
lost_flag name n SyncDraft v bad = absurd bad
lost_flag name n (Publish m) v bad = absurd bad
lost_flag name n (Write m at b) v on = ap (λ (k : Bytes). v.failed || bytes_eq k n) on
lost_flag name n (Sync m) v on = ap (λ (k : Bytes). v.failed || bytes_eq k n) on
lost_flag name n (Remove m) v bad = absurd bad

pub failed_done : (log : Log) (name n : Bytes) (op : DiskOp) → ClosesOn name op → failed_on (log ++ Began op ∷ Did op true ∷ []) n ≡ failed_on log n
failed_done log name n op on = ap (λ (v : View). v.failed) (view_of-append n log (Began op ∷ Did op true ∷ [])) ∙ done_flag name n op (view_of n log) on

failed_lost : (log : Log) (name n : Bytes) (op : DiskOp) → ClosesOn name op → failed_on (log ++ Began op ∷ Did op false ∷ []) n ≡ failed_on (log ++ Unread name ∷ []) n
failed_lost log name n op on = ap (λ (v : View). v.failed) (view_of-append n log (Began op ∷ Did op false ∷ [])) ∙ lost_flag name n op (view_of n log) on ∙ sym (failed_more log name n)

-- where the same names failed
opened_as : (files : Files) (k l : Log) (s t : State) → t.entries ≡ s.entries → t.closed_names ≡ s.closed_names → ((n : Bytes) → failed_on l n ≡ failed_on k n) → IsOpened files k s → IsOpened files l t
opened_as files k l s t entries closed same is = record {
  entries = entries ∙ is.entries ∙ sym (filter_same (λ (e : Entry). not (failed_on l e.name)) (λ e. not (failed_on k e.name)) (λ e. ap (λ (b : Bool). not b) (same e.name)) (entries_in files));
  closed = λ name. ap (has_text name) closed ∙ is.closed name ∙ sym (ap (λ (ns : List Bytes). list_any (is_name name) ns) names);
  count = ap (λ (ns : List Bytes). length ns) closed ∙ is.count ∙ sym (ap (λ (ns : List Bytes). length ns) names);
}
  where
    names : filter (failed_on l) (names_in files) ≡ filter (failed_on k) (names_in files)
    names = filter_same (failed_on l) (failed_on k) same (names_in files)

-- ---- what stands

pub record Stands (c : Settings) (files : Files) (given : ℕ) (log : Log) (s : State) : Type 0 where
  pub opens : IsOpening IsListed c given s
  pub is : IsOpened files log s
  pub disk : s.disk ≡ disk_of log
  pub recent : list_any is_old s.entries ≡ false
  pub names : HasOpenNames s

disk_more : (log hs : Log) → disk_of (log ++ hs) ≡ fold disk_with (disk_of log) hs
disk_more log hs = fold-append disk_with [] log hs

module _ (c : Settings) (files : Files) (given : ℕ) where
  pub recovers : (log : Log) (s : State) → Stands c files given log s → IsRecovering s
  recovers log s st = record { none = st.opens.none; at = st.opens.at; idle = st.opens.idle; done = st.opens.done }

  -- an operation was done
  pub done_stands : (log : Log) (s : State) (name : Bytes) (op : DiskOp) (a : Agenda) → ClosesOn name op → a.todo ≡ [] → Stands c files given log s → Stands c files given (log ++ Began op ∷ Did op true ∷ []) (ran (Began op ∷ Did op true ∷ []) a s)
  done_stands log s name op a on none st = record {
    opens = record { at = st.opens.at; settings = st.opens.settings; run = st.opens.run; none = st.opens.none; idle = refl; done = none; displaced = st.opens.displaced; lost = st.opens.lost; ticked = st.opens.ticked; top = st.opens.top };
    is = opened_as files log (log ++ Began op ∷ Did op true ∷ []) s (ran (Began op ∷ Did op true ∷ []) a s) refl refl (λ n. failed_done log name n op on) st.is;
    disk = ap (λ (d : Log). d ++ Began op ∷ Did op true ∷ []) st.disk ∙ sym (disk_more log (Began op ∷ Did op true ∷ []) ∙ append_assoc (disk_of log) (Began op ∷ []) (Did op true ∷ []));
    recent = st.recent;
    names = st.names;
  }

  in_opening : (s : State) (name : Bytes) → s.phase ≡ IsListed → unread name s ≡ paid (lose_entry name (close_name name s))
  unfolding unread lose_in_opening close_name
  in_opening s name at =
      let opens : is_opening s ≡ true = ap (λ (q : Phase). list_any (λ p. is_same_phase p q) (IsWoken ∷ IsConfigured ∷ IsRooted ∷ IsListed ∷ IsListening ∷ IsStuck ∷ [])) at in
      ap (λ (b : Bool). paid (elim b as (λ d. State) [ true ↦ lose_entry name (close_name name s) | false ↦ close_name name s ])) opens

  module _ (rise : is_rising (names_in files) ≡ true) (log : Log) (s : State) (name : Bytes) (there : list_any (is_name name) (names_in files) ≡ true) (sound : failed_on log name ≡ false) (st : Stands c files given log s) where
    law : Leads (Unread name ∷ []) s (unread name s) × IsOpened files (log ++ Unread name ∷ []) (unread name s) × IsRecovering (unread name s)
    law = unread_names files log s name rise st.is (recovers log s st) there sound

    out : IsOpened files (log ++ Unread name ∷ []) (paid (lose_entry name (close_name name s)))
    out = subst (IsOpened files (log ++ Unread name ∷ [])) (in_opening s name st.opens.at) law.1

    pub unread_leads : Leads (Unread name ∷ []) s (unread name s)
    unread_leads = law.0

    -- its file could not be read
    pub unread_stands : Stands c files given (log ++ Unread name ∷ []) (unread name s)
    unfolding paid regained lose_entry close_name
    unread_stands = subst (Stands c files given (log ++ Unread name ∷ [])) (sym (in_opening s name st.opens.at)) (record {
      opens = record { at = st.opens.at; settings = st.opens.settings; run = st.opens.run; none = st.opens.none; idle = st.opens.idle; done = refl; displaced = st.opens.displaced; lost = st.opens.lost; ticked = st.opens.ticked; top = st.opens.top };
      is = out;
      disk = st.disk ∙ sym (disk_more log (Unread name ∷ []));
      recent = none_left is_old (λ e. not (is_named name e)) s.entries st.recent;
      names = open_left name s.closed_names s.entries st.names;
    })

    -- or an operation failed
    pub lost_stands : (op : DiskOp) → ClosesOn name op → Stands c files given (log ++ Began op ∷ Did op false ∷ []) (lose_entry name (close_name name (ran (Began op ∷ Did op false ∷ []) no_agenda s)))
    unfolding paid regained lose_entry close_name
    lost_stands op on = record {
      opens = record { at = st.opens.at; settings = st.opens.settings; run = st.opens.run; none = st.opens.none; idle = refl; done = refl; displaced = st.opens.displaced; lost = st.opens.lost; ticked = st.opens.ticked; top = st.opens.top };
      is = opened_as files (log ++ Unread name ∷ []) (log ++ Began op ∷ Did op false ∷ []) (paid (lose_entry name (close_name name s))) (lose_entry name (close_name name (ran (Began op ∷ Did op false ∷ []) no_agenda s))) refl refl (λ n. failed_lost log name n op on) out;
      disk = ap (λ (d : Log). d ++ Began op ∷ Did op false ∷ []) st.disk ∙ sym (disk_more log (Began op ∷ Did op false ∷ []) ∙ append_assoc (disk_of log) (Began op ∷ []) (Did op false ∷ []));
      recent = none_left is_old (λ e. not (is_named name e)) s.entries st.recent;
      names = open_left name s.closed_names s.entries st.names;
    }

-- ---- the file of an entry

pub record IsFoundAs (files : Files) (e : Entry) : Type 0 where
  pub file : Bytes
  pub there : file_of e.name files ≡ Some file
  pub kept : Kept
  pub is : entry_in e.name file ≡ Some kept
  pub version : kept.entry.version ≡ e.version
  pub formed : is_formed e.name ≡ true

found_by : (files : Files) (e : Entry) (p : Bytes × Bytes) → file_of p.0 files ≡ Some p.1 → law_entry p.0 p.1 ≡ Some e → PairOf p.0 (entry_in p.0 p.1) (law_entry p.0 p.1) → IsFoundAs files e
found_by files e p there is (neither none_k none_o) = absurd (let no : None ≡ Some e = sym none_o ∙ is in cc no)
found_by files e p there is (both kept d is_k is_o shows name own) =
    let some : Some d ≡ Some e = sym is_o ∙ is in
    let same : d ≡ e = cc some in
    subst (IsFoundAs files) same (record {
      file = p.1;
      there = subst (λ (n : Bytes). file_of n files ≡ Some p.1) (sym name) there;
      kept = kept;
      is = subst (λ (n : Bytes). entry_in n p.1 ≡ Some kept) (sym name) is_k;
      version = shows.version;
      formed = ap is_formed own ∙ name_formed d.key;
    })

pub found_as : (files : Files) → Distinct (map (λ p. p.0) files) → (e : Entry) → IsIn e (entries_in files) → IsFoundAs files e
found_as files apart e i =
    let from : FromImage files e = in_entries files e i in
    found_by files e from.file (in_image files from.file apart from.there) from.is (pair_of from.file.0 from.file.1)

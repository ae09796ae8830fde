-- The folder of a life is used and listed, each of its names is looked at, and the life listens.
use Rattle.std.proofs.Common.{◌≡◌, refl, sym, subst, ap, ◌∙◌, ℕ, Bool, true, false, not, ◌&&◌, ◌==◌, List, [], ◌∷◌, ◌++◌, append_assoc, length, map, take, arith}
use Rattle.std.proofs.lemmas.List.{take_all}
use Rattle.std.proofs.lemmas.List.Sums.{fold-append}
use Rattle.std.specs.List.{All, list_any}
use Rattle.std.specs.Prelude.{bytes_eq}
use Rattle.pp_cache_law.specs.Outdated.{AreNoted}
use Rattle.pp_conf.specs.Conf.{Settings}
use Rattle.pp_joints_law.proofs.OpenedFresh.{found_new, fresh_rooted, is_old, names_rise, none_closed, noted_none}
use Rattle.pp_joints_law.proofs.OpenedNames.{AreLeft, all_left, all_names, none_stray_left}
use Rattle.pp_joints_law.proofs.OpenedRows.{rows_short}
use Rattle.pp_joints_law.proofs.OpenedStands.{Stands}
use Rattle.pp_joints_law.specs.Opened.{FoldersLead, StandsConfigured, StandsListening}
use Rattle.pp_keeps_law.specs.Stands.{IsShort}
use Rattle.pp_law.specs.Lists.{Bytes, has_text}
use Rattle.pp_law.specs.Opening.{is_recovered, opened_to}
use Rattle.pp_law.specs.Repairs.{has_stray_gates}
use Rattle.pp_law.specs.State.{State, Entry, Todo, IsListed, IsListening}
use Rattle.pp_law.specs.Store.{is_idle_disk}
use Rattle.pp_laws.proofs.Tests.{number_same}
use Rattle.pp_laws.specs.Runs.{IsIn}
use Rattle.pp_obeys.proofs.Calls.{moves_to}
use Rattle.pp_obeys.proofs.Happenings.{goes_listens}
use Rattle.pp_obeys.proofs.Moving.{leads_then, moves_append, moves_map}
use Rattle.pp_obeys.proofs.Silent.{both_hold}
use Rattle.pp_obeys.specs.Moves.{Goes, Leads, MovesAll}
use Rattle.pp_recover.proofs.NameLemmas.{Distinct, distinct}
use Rattle.pp_recover.proofs.OpenLemmas.{fresh_listed}
use Rattle.pp_recover.specs.Image.{HasFewNames}
use Rattle.pp_recover.specs.Opening.{IsFresh, Tended, TendsEach, name_in, store_in}
use Rattle.pp_shelf_law.proofs.KeptEntries.{opened_kept}
use Rattle.pp_shelf_law.proofs.Opened.{opened_ones}
use Rattle.pp_shelf_law.proofs.Recovered.{folders}
use Rattle.pp_shelf_law.proofs.Recovering.{fresh_ones}
use Rattle.pp_shelf_law.proofs.Runs.{idle_is}
use Rattle.pp_shelf_law.proofs.Shelves.{bytes_same}
use Rattle.pp_shelf_law.specs.AsKept.{EachIsAsKept}
use Rattle.pp_shelf_law.specs.Folder.{disk_of, disk_with}
use Rattle.pp_shelf_law.specs.Opening.{IsRecovering}
use Rattle.pp_shelf_law.specs.Shelf.{AreKept}
use Rattle.pp_store.specs.Kept.{KeptMap}
use Rattle.pp_text.specs.Bytes.{is_empty}
use Rattle.pp_world.specs.Disk.{is_rising, names_in}
use Rattle.pp_world.specs.Files.{Files}
use Rattle.pp_world.specs.Log.{Log}
use Rattle.pp_world.specs.declared.happening.Happening.TheVariants.{Listed, Listens, Rooted, Woke}

-- ---- it listens

pub recovered : (c : Settings) (files : Files) (given : ℕ) (log : Log) (s : State) → list_any (has_stray_gates s) s.entries ≡ false → Stands c files given log s → is_recovered s ≡ true
recovered c files given log s clean st = both_hold (is_idle_disk s && is_empty s.agenda.todo) (not (list_any (has_stray_gates s) s.entries))
    (both_hold (is_idle_disk s) (is_empty s.agenda.todo) (idle_is s st.opens.idle) (ap (λ (todo : List Todo). is_empty todo) st.opens.done)) (ap (λ (b : Bool). not b) clean)

pub port_is : (c : Settings) (files : Files) (given : ℕ) (log : Log) (s : State) → Stands c files given log s → (c.port == s.settings.port) ≡ true
port_is c files given log s st = ap (λ (d : Settings). c.port == d.port) st.opens.settings ∙ number_same c.port

listens : (c : Settings) (files : Files) (shelf : KeptMap) (given : ℕ) (log : Log) (s : State) → is_rising (map (λ file. file.0) files) ≡ true → HasFewNames files → shelf ≡ store_in files log → list_any (has_stray_gates s) s.entries ≡ false → Stands c files given log s
    → MovesAll (StandsListening c shelf given) (Listens c.port true ∷ []) s
unfolding opened_to
listens c files shelf given log s rising few is clean st =
    let goes : Goes s (Listens c.port true) (opened_to IsListening true s) = goes_listens s c.port true st.opens.none st.opens.at (port_is c files given log s st) (recovered c files given log s clean st) in
    moves_to refl goes (record {
      opens = record {
        at = refl;
        settings = st.opens.settings;
        run = st.opens.run;
        none = st.opens.none;
        idle = st.opens.idle;
        done = st.opens.done;
        displaced = st.opens.displaced;
        lost = st.opens.lost;
        ticked = st.opens.ticked;
        top = st.opens.top;
      };
      shows = subst (λ (k : KeptMap). AreKept k s.entries s.closed_names) (sym is) (opened_ones files log s rising few st.is);
      noted = subst (λ (keys : List Bytes). AreNoted [] keys s.entries) (sym st.opens.displaced) (noted_none s.entries st.recent);
      names = st.names;
      short = subst (λ (k : KeptMap). All IsShort k.rows) (sym is) (rows_short files log);
      kept = subst EachIsAsKept (sym is) (opened_kept files log);
    })

-- ---- all

module _ (c : Settings) (files : Files) (given : ℕ) (log : Log) (s : State) (rising : is_rising (map (λ file. file.0) files) ≡ true) (few : HasFewNames files) (fresh : IsFresh files log) (disk : disk_of log ≡ Woke files ∷ []) (stands : StandsConfigured c files given s) where
  abbrev pub at_list : State
  at_list = record s { phase = IsListed }

  abbrev pub there : Log
  there = (log ++ Rooted c.root ∷ []) ++ Listed true ∷ []

  pub fresh_there : IsFresh files there
  fresh_there = fresh_listed files (log ++ Rooted c.root ∷ []) true (fresh_rooted files log c.root fresh)

  disk_there : disk_of there ≡ Woke files ∷ []
  disk_there = fold-append disk_with [] (log ++ Rooted c.root ∷ []) (Listed true ∷ []) ∙ fold-append disk_with [] log (Rooted c.root ∷ []) ∙ disk

  pub used : Leads (Rooted c.root ∷ Listed true ∷ []) s at_list × IsRecovering at_list
  used = folders s c.root stands.opens.none stands.opens.at stands.opens.idle stands.opens.done (ap (λ (d : Settings). bytes_eq c.root d.root) stands.opens.settings ∙ bytes_same c.root)

  pub found : Stands c files given there at_list
  found = record {
    opens = record {
      at = refl;
      settings = stands.opens.settings;
      run = stands.opens.run;
      none = stands.opens.none;
      idle = stands.opens.idle;
      done = stands.opens.done;
      displaced = stands.opens.displaced;
      lost = stands.opens.lost;
      ticked = stands.opens.ticked;
      top = stands.opens.top;
    };
    is = fresh_ones files there at_list fresh_there stands.entries stands.closed;
    disk = stands.disk ∙ sym disk_there;
    recent = ap (λ (es : List Entry). list_any is_old es) stands.entries ∙ found_new files;
    names = ap (λ (names : List Bytes). list_any (λ e. has_text e.name names) s.entries) stands.closed ∙ none_closed s.entries;
  }

  pub apart : Distinct (map (λ file. file.0) files)
  apart = distinct (map (λ file. file.0) files) rising

  pub all_there : (ts : List Tended) → map name_in ts ≡ names_in files → AreLeft files there ts
  all_there ts names = all_left files there fresh_there ts (λ n i. subst (λ (ns : List Bytes). IsIn n ns) names i) (subst Distinct (sym names) (distinct (names_in files) (names_rise files rising few)))

  -- these are looked at, and then this comes
  pub names_move : (Q : State → Type 0) (rest more : Log) (ts : List Tended) → AreLeft files there ts → TendsEach files ts rest → ((t : State) → Stands c files given (there ++ rest) t → MovesAll Q more t) → MovesAll Q (Rooted c.root ∷ Listed true ∷ (rest ++ more)) s
  names_move Q rest more ts left each then =
      leads_then Q (Rooted c.root ∷ Listed true ∷ []) (rest ++ more) s at_list used.0
      (moves_append Q rest more at_list
      (moves_map (Stands c files given (there ++ rest)) (λ t. MovesAll Q more t) then rest at_list (all_names c files given apart (names_rise files rising few) ts there rest at_list left each found)))

  -- behind all of them no gates are left to be closed
  pub none_left_open : (rest : Log) (ts : List Tended) → map name_in ts ≡ names_in files → TendsEach files ts rest → (t : State) → Stands c files given (there ++ rest) t → list_any (has_stray_gates t) t.entries ≡ false
  none_left_open rest ts names each t st = none_stray_left c files given ts there rest t apart few names (all_there ts names) each st

pub all_taken : (files : Files) (ts : List Tended) → map name_in ts ≡ take (length (names_in files)) (names_in files) → map name_in ts ≡ names_in files
all_taken files ts names = names ∙ take_all (length (names_in files)) (names_in files) (omega arith)

pub folders_lead : FoldersLead
folders_lead c files shelf given log hs s rising few fresh disk (front, is, ((rest, first, (ts, names, each)), shelf_is)) stands =
    let whole : hs ≡ Rooted c.root ∷ Listed true ∷ rest = is ∙ ap (λ (k : Log). Rooted c.root ∷ k) first in
    let same : shelf ≡ store_in files (((log ++ Rooted c.root ∷ []) ++ Listed true ∷ []) ++ rest) =
    shelf_is ∙ ap (λ (k : Log). store_in files ((log ++ Rooted c.root ∷ []) ++ k)) first ∙ ap (λ (k : Log). store_in files k) (sym (append_assoc (log ++ Rooted c.root ∷ []) (Listed true ∷ []) rest)) in
    let all : map name_in ts ≡ names_in files = all_taken files ts names in
    subst (λ (k : Log). MovesAll (StandsListening c shelf given) (k ++ Listens c.port true ∷ []) s) (sym whole)
    (names_move c files given log s rising few fresh disk stands (StandsListening c shelf given) rest (Listens c.port true ∷ []) ts (all_there c files given log s rising few fresh disk stands ts all) each
    (λ t st. listens c files shelf given (there c files given log s rising few fresh disk stands ++ rest) t rising few same (none_left_open c files given log s rising few fresh disk stands rest ts all each t st) st))

-- What the map of a list of devices says of each name, and whether some device of it is on.
use Rattle.std.proofs.Common.{◌≡◌, ℕ, Bool, true, false, cond, ◌&&◌, ◌||◌, T, nat_eq, List, [], ◌∷◌, map, Option, Some, None, find, refl, sym, ap, ◌∙◌}
use Rattle.std.specs.Option.{option_map_or}
use Rattle.std.specs.List.{list_any}
use Rattle.std.specs.declared.cmp.Ordering.{Ordering}
use Rattle.std.specs.declared.cmp.Ordering.TheVariants.{Less, Equal, Greater}
use Rattle.std.specs.Ordering.{eq_by_cmp, is_eq, is_lt}
use Rattle.std.specs.Cmp.{eq_by_cmp_equiv, tied_itself}
use Rattle.std.specs.Cmp.Lexicographic.{pointwise, bytes_decides, texts_ties, nat_list_cmp_total}
use Rattle.std.specs.FinMap.{FinMap, get, entries, entries_sorted, values, is_sorted, get-entries, get-from_entries, IsAntisymmetric, slice_cmp-IsAntisymmetric, nat_cmp-IsAntisymmetric}
use Rattle.std.specs.FinMap.{find as found_in}
use Rattle.std.specs.FinMap.Entries.{below_all}
use Rattle.account_rules.specs.declared.device.Device.{Device}
use Rattle.account_rules.specs.Devices.{name_cmp, by_name, device_map, is_of_name, is_on_in, is_some_on}

pub names_exact : IsAntisymmetric name_cmp
names_exact = slice_cmp-IsAntisymmetric nat_cmp-IsAntisymmetric

pub named : (device name : List ℕ) → eq_by_cmp name_cmp name device ≡ pointwise nat_eq device name
named device name = (eq_by_cmp_equiv nat_list_cmp_total).symm name device ∙ sym (texts_ties device name)

found_by_name : (devices : List Device) (name : List ℕ) → found_in name_cmp name (map by_name devices) ≡ find (is_of_name name) devices
found_by_name [] name = refl
found_by_name (device ∷ devices) name = λ i. cond (named device.name name i) (Some device) (found_by_name devices name i)

-- the first record of the name counts
pub get_device : (devices : List Device) (name : List ℕ) → get (device_map devices) name ≡ find (is_of_name name) devices
get_device devices name = get-from_entries nat_list_cmp_total (map by_name devices) name ∙ found_by_name devices name

-- ---- a map has an element that passes just where a name has one

first_so : (a b : Bool) → T (a && b) → T a
first_so true b h = tt
first_so false b h = absurd h

second_so : (a b : Bool) → T (a && b) → T b
second_so true b h = h
second_so false b h = absurd h

not_both : {A : Type 0} {G : Type 0} (x : A) → Some x ≡ None → G
not_both x e = cc

or_true : (b : Bool) → (b || true) ≡ true
or_true true = refl
or_true false = refl

is_Equal : (r : Ordering) → is_eq r ≡ true → r ≡ Equal
is_Equal Less e = cc
is_Equal Equal e = refl
is_Equal Greater e = cc

pub record Passes {X : Type 0} (look_up : List ℕ → Option X) (test : X → Bool) : Type 0 where
  pub name : List ℕ
  pub value : X
  pub is : look_up name ≡ Some value
  pub passes : test value ≡ true

module _ {X : Type 0} (test : X → Bool) where
  -- a name below each key of a list in order is not found in it
  missed : (name key : List ℕ) → name_cmp name key ≡ Equal → (es : List (List ℕ × X)) → T (below_all name_cmp key es) → found_in name_cmp name es ≡ None
  missed name key tied [] below = refl
  missed name key tied (e ∷ es) below =
      ap (λ r. cond (is_eq r) (Some e.1) (found_in name_cmp name es)) (nat_list_cmp_total.congr name key e.0 tied ∙ is_Less (name_cmp key e.0) (first_so _ _ below))
      ∙ missed name key tied es (second_so _ _ below)
    where
      is_Less : (r : Ordering) → T (is_lt r) → r ≡ Less
      is_Less Less h = refl
      is_Less Equal h = absurd h
      is_Less Greater h = absurd h

  later : (name : List ℕ) (value : X) (e : List ℕ × X) (es : List (List ℕ × X)) → T (below_all name_cmp e.0 es) → found_in name_cmp name es ≡ Some value → found_in name_cmp name (e ∷ es) ≡ Some value
  later name value e es below there = by (eq_by_cmp name_cmp name e.0) refl
    where
      by : (b : Bool) → eq_by_cmp name_cmp name e.0 ≡ b → cond b (Some e.1) (found_in name_cmp name es) ≡ Some value
      by true is = not_both value (sym there ∙ missed name e.0 (is_Equal _ is) es below)
      by false is = there

  passing_found : (es : List (List ℕ × X)) → T (is_sorted name_cmp es) → list_any test (map (λ e. e.1) es) ≡ true → Passes (λ name. found_in name_cmp name es) test
  passing_found [] sorted any = cc
  passing_found (e ∷ es) sorted any = by (passing_found es (second_so _ _ sorted)) (test e.1) refl any
    where
      by : (list_any test (map (λ (e : List ℕ × X). e.1) es) ≡ true → Passes (λ name. found_in name_cmp name es) test) →
          (b : Bool) → test e.1 ≡ b → (b || list_any test (map (λ e. e.1) es)) ≡ true → Passes (λ name. found_in name_cmp name (e ∷ es)) test
      by rest true is h = record { name = e.0; value = e.1; is = ap (λ r. cond (is_eq r) (Some e.1) (found_in name_cmp e.0 es)) (tied_itself nat_list_cmp_total e.0); passes = is }
      by rest false is h =
          let there = rest h in
          record { name = there.name; value = there.value; is = later there.name there.value e es (first_so _ _ sorted) there.is; passes = there.passes }

  found_passing : (name : List ℕ) (value : X) (es : List (List ℕ × X)) → found_in name_cmp name es ≡ Some value → test value ≡ true → list_any test (map (λ e. e.1) es) ≡ true
  found_passing name value [] there passes = cc
  found_passing name value (e ∷ es) there passes = by (λ is. found_passing name value es is passes) (eq_by_cmp name_cmp name e.0) there
    where
      by : (found_in name_cmp name es ≡ Some value → list_any test (map (λ (e : List ℕ × X). e.1) es) ≡ true) →
          (b : Bool) → cond b (Some e.1) (found_in name_cmp name es) ≡ Some value → (test e.1 || list_any test (map (λ e. e.1) es)) ≡ true
      by rest true is = let same : e.1 ≡ value = cc in ap (λ b. b || list_any test (map (λ e. e.1) es)) (ap test same ∙ passes)
      by rest false is = ap (λ b. test e.1 || b) (rest is) ∙ or_true (test e.1)

  pub some_value : (m : FinMap name_cmp X) → list_any test (values m) ≡ true → Passes (get m) test
  some_value m any =
      let there = passing_found (entries m) (entries_sorted m) any in
      record { name = there.name; value = there.value; is = get-entries m there.name ∙ there.is; passes = there.passes }

  pub value_there : (m : FinMap name_cmp X) (name : List ℕ) (value : X) → get m name ≡ Some value → test value ≡ true → list_any test (values m) ≡ true
  value_there m name value there passes = found_passing name value (entries m) (sym (get-entries m name) ∙ there) passes

-- ---- whether some device is on

abbrev first_is_on : List Device → List ℕ → Bool
first_is_on devices name = option_map_or (λ (device : Device). device.on) (find (is_of_name name) devices) false

module _ {X : Type 0} (test : X → Bool) where
  pub of_any : (xs : List X) → list_any test xs ≡ true → (x : X) × (test x ≡ true)
  of_any [] any = cc
  of_any (x ∷ xs) any = by (of_any xs) (test x) refl any
    where
      by : (list_any test xs ≡ true → (x : X) × (test x ≡ true)) → (b : Bool) → test x ≡ b → (b || list_any test xs) ≡ true → (x : X) × (test x ≡ true)
      by rest true is h = (x, is)
      by rest false is h = rest h

  pub any_of : (look : X → Bool) (xs : List X) (x : X) → find look xs ≡ Some x → test x ≡ true → (list_any test xs ≡ true) × (look x ≡ true)
  any_of look [] x there is = cc
  any_of look (y ∷ xs) x there is = by (λ h. any_of look xs x h is) (look y) refl there
    where
      by : (find look xs ≡ Some x → (list_any test xs ≡ true) × (look x ≡ true)) →
          (b : Bool) → look y ≡ b → cond b (Some y) (find look xs) ≡ Some x → (list_any test (y ∷ xs) ≡ true) × (look x ≡ true)
      by rest true looked h = let same : y ≡ x = cc in (ap (λ b. b || list_any test xs) (ap test same ∙ is), ap look (sym same) ∙ looked)
      by rest false looked h = let later = rest h in (ap (λ b. test y || b) later.0 ∙ or_true (test y), later.1)

-- the first record of a name, if it is on
first_there : (devices : List Device) (name : List ℕ) (first : Option Device) → find (is_of_name name) devices ≡ first → option_map_or (λ (device : Device). device.on) first false ≡ true →
    Passes (λ name. find (is_of_name name) devices) (λ device. device.on)
first_there devices name None is on = cc
first_there devices name (Some device) is on = record { name = name; value = device; is = is; passes = on }

on_in_map : (devices : List Device) → list_any (λ (device : Device). first_is_on devices device.name) devices ≡ true → is_some_on (device_map devices) ≡ true
on_in_map devices any =
    let one = of_any (λ (device : Device). first_is_on devices device.name) devices any in
    let first = first_there devices one.0.name (find (is_of_name one.0.name) devices) refl one.1 in
    value_there (λ (device : Device). device.on) (device_map devices) first.name first.value (get_device devices first.name ∙ first.is) first.passes

named_so : (name : List ℕ) (device : Device) → is_of_name name device ≡ true → device.name ≡ name
named_so name device is = (bytes_decides device.name name).0 is

on_in_list : (devices : List Device) → is_some_on (device_map devices) ≡ true → list_any (λ (device : Device). first_is_on devices device.name) devices ≡ true
on_in_list devices any =
    let there = some_value (λ (device : Device). device.on) (device_map devices) any in
    let first : find (is_of_name there.name) devices ≡ Some there.value = sym (get_device devices there.name) ∙ there.is in
    let same : there.value.name ≡ there.name = named_so there.name there.value (any_of (λ (device : Device). device.on) (is_of_name there.name) devices there.value first there.passes).1 in
    let on : first_is_on devices there.value.name ≡ true = ap (first_is_on devices) same ∙ ap (λ (o : Option Device). option_map_or (λ (device : Device). device.on) o false) first ∙ there.passes in
    (any_of (λ (device : Device). first_is_on devices device.name) (is_of_name there.name) devices there.value first on).0

pub same_test : (a b : Bool) → (a ≡ true → b ≡ true) → (b ≡ true → a ≡ true) → a ≡ b
same_test true b to from = sym (to refl)
same_test false true to from = from refl
same_test false false to from = refl

-- some device of the map is on where some record of the list is of a name whose device is
pub some_on : (devices : List Device) → list_any (λ (device : Device). is_on_in (device_map devices) device.name) devices ≡ is_some_on (device_map devices)
some_on devices =
    (λ i. list_any (λ (device : Device). option_map_or (λ (d : Device). d.on) (get_device devices device.name i) false) devices)
    ∙ same_test _ _ (on_in_map devices) (on_in_list devices)

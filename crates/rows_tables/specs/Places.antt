-- Rule: The tree of each table in the file, and the places of the columns in its rows (all this
-- project's own). Places count from 1; place 0 is the row number.
use Rattle.std.specs.Prelude.{ℕ, List, [], ◌∷◌}
use Rattle.sqlite_value.specs.declared.value.Value.{Value}
use Rattle.sqlite_value.specs.declared.value.Value.TheVariants.{Null}
use Rattle.sqlite_value.specs.Order.{Row, column}

-- ---- the trees: that of a table, and then that of the index of its key, which `meta` lacks

abbrev pub meta_tree : ℕ
meta_tree = 0

abbrev pub account_tree : ℕ
account_tree = 1

abbrev pub job_tree : ℕ
job_tree = 3

abbrev pub document_tree : ℕ
document_tree = 5

abbrev pub grants_tree : ℕ
grants_tree = 7

abbrev pub device_tree : ℕ
device_tree = 9

abbrev pub rates_tree : ℕ
rates_tree = 11

-- of the index on jobs by their end
abbrev pub job_ended_tree : ℕ
job_ended_tree = 13

-- ---- the columns

abbrev pub row_number : ℕ
row_number = 0

pub record MetaColumns : Type 0 where
  pub id : ℕ
  pub version : ℕ

abbrev pub meta_column : MetaColumns
meta_column = record { id = 1; version = 2 }

pub record AccountColumns : Type 0 where
  pub name : ℕ
  pub opened : ℕ
  pub next_job : ℕ

abbrev pub account_column : AccountColumns
account_column = record { name = 1; opened = 2; next_job = 3 }

pub record JobColumns : Type 0 where
  pub account : ℕ
  pub job : ℕ
  pub name : ℕ
  pub password : ℕ
  pub state : ℕ
  pub is_open : ℕ
  pub stopping : ℕ
  pub copies : ℕ
  pub impressions : ℕ
  pub reserved : ℕ
  pub charged : ℕ
  pub documents : ℕ
  pub rate : ℕ
  pub device : ℕ
  pub created : ℕ
  pub started : ℕ
  pub ended : ℕ

abbrev pub job_column : JobColumns
job_column = record {
  account = 1;
  job = 2;
  name = 3;
  password = 4;
  state = 5;
  is_open = 6;
  stopping = 7;
  copies = 8;
  impressions = 9;
  reserved = 10;
  charged = 11;
  documents = 12;
  rate = 13;
  device = 14;
  created = 15;
  started = 16;
  ended = 17;
}

pub record DocumentColumns : Type 0 where
  pub account : ℕ
  pub job : ℕ
  pub number : ℕ
  pub format : ℕ
  pub bytes : ℕ

abbrev pub document_column : DocumentColumns
document_column = record { account = 1; job = 2; number = 3; format = 4; bytes = 5 }

pub record GrantColumns : Type 0 where
  pub account : ℕ
  pub month : ℕ
  pub pages : ℕ

abbrev pub grant_column : GrantColumns
grant_column = record { account = 1; month = 2; pages = 3 }

pub record DeviceColumns : Type 0 where
  pub name : ℕ
  pub accepting : ℕ

abbrev pub device_column : DeviceColumns
device_column = record { name = 1; accepting = 2 }

pub record RateColumns : Type 0 where
  pub device : ℕ
  pub units : ℕ

abbrev pub rate_column : RateColumns
rate_column = record { device = 1; units = 2 }

-- the keys of an account's rows begin with its name, and those of a job's rows then with its number
abbrev pub account_places : List ℕ
account_places = 1 ∷ []

abbrev pub job_places : List ℕ
job_places = 1 ∷ 2 ∷ []

-- what stands at a place, where the cells have no row number before them
abbrev pub cell : (place : ℕ) (cells : Row) → Value
cell place cells = column (Null ∷ cells) place

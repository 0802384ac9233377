-- What the texts mean.
use Rattle.std.proofs.Common.{◌≡◌, ℕ, pos, negsuc, List, [], ◌∷◌, codes, false, None, Ok, refl}
use Rattle.sqlite.specs.declared.types.Value.TheVariants.{Null, Int}
use Rattle.sqlite.specs.Term.{Term, lit, col, op2}
use Rattle.sqlite_sql.specs.declared.ops.BinaryOp.TheVariants.{Compare}
use Rattle.sqlite_sql.specs.declared.ops.CompareOp.TheVariants.{Gt, Eq}
use Rattle.sqlite.specs.Collation.TheVariants.{Binary}
use Rattle.sqlite.specs.Query.{Query, inner, end}
use Rattle.sqlite.specs.Source.TheVariants.{Values}
use Rattle.sqlite.specs.Command.TheVariants.{Insert, Select, Delete, Update, CreateTable}
use Rattle.sqlite.specs.Compile.{table_defined_by}
use Rattle.sqlite_tied.specs.Compute.{everything}
use Rattle.sqlite.specs.Listing.{understood, reads_listing}
use Rattle.sqlite.proofs.Callers.{IsPlain, command_of, statement_of}
use Rattle.durable.specs.Tables.{meta, log, floor, no_schema, meta_schema, old_schema, schema}

abbrev pub make_meta : List ℕ
make_meta = codes "CREATE TABLE meta (id INTEGER PRIMARY KEY, term INTEGER NOT NULL, vote INTEGER NOT NULL) STRICT"

abbrev pub make_log : List ℕ
make_log = codes "CREATE TABLE log (idx INTEGER PRIMARY KEY, term INTEGER NOT NULL, stamp INTEGER NOT NULL, client INTEGER NOT NULL, number INTEGER NOT NULL, body TEXT NOT NULL) STRICT"

abbrev pub make_floor : List ℕ
make_floor = codes "CREATE TABLE floor (id INTEGER PRIMARY KEY, t INTEGER NOT NULL) STRICT"

abbrev pub insert_text : List ℕ
insert_text = codes "INSERT INTO log VALUES (?1, ?2, ?3, ?4, ?5, ?6)"

abbrev pub update_all_text : List ℕ
update_all_text = codes "UPDATE meta SET term = ?1, vote = ?2"

abbrev pub update_floor_text : List ℕ
update_floor_text = codes "UPDATE floor SET t = ?1"

abbrev pub delete_text : List ℕ
delete_text = codes "DELETE FROM log WHERE idx > ?1"

abbrev pub read_meta : List ℕ
read_meta = codes "SELECT id, term, vote FROM meta"

abbrev pub read_floor : List ℕ
read_floor = codes "SELECT id, t FROM floor"

abbrev pub read_log : List ℕ
read_log = codes "SELECT idx, term, stamp, client, number, body FROM log ORDER BY idx"

abbrev pub read_entry : List ℕ
read_entry = codes "SELECT idx, term, stamp, client, number, body FROM log WHERE idx = ?1"

abbrev pub first_meta : List ℕ
first_meta = codes "INSERT INTO meta VALUES (1, 0, 0)"

abbrev pub first_floor : List ℕ
first_floor = codes "INSERT INTO floor VALUES (1, -1)"

-- the columns that an INSERT of six values fills
abbrev pub insert_terms : List Term
insert_terms = col 0 0 ∷ lit Null ∷ col 0 1 ∷ col 0 2 ∷ col 0 3 ∷ col 0 4 ∷ col 0 5 ∷ []

pub make_meta_is : (command_of (understood no_schema make_meta) ≡ CreateTable) × (statement_of make_meta (understood no_schema make_meta) ≡ make_meta) × (table_defined_by make_meta ≡ Ok meta)
unfolding understood everything
make_meta_is = (refl, refl, refl)

pub make_log_is : (command_of (understood meta_schema make_log) ≡ CreateTable) × (statement_of make_log (understood meta_schema make_log) ≡ make_log) × (table_defined_by make_log ≡ Ok (record log { tree = 0 }))
unfolding understood everything
make_log_is = (refl, refl, refl)

pub make_floor_is : (command_of (understood old_schema make_floor) ≡ CreateTable) × (statement_of make_floor (understood old_schema make_floor) ≡ make_floor) × (table_defined_by make_floor ≡ Ok (record floor { tree = 0 }))
unfolding understood everything
make_floor_is = (refl, refl, refl)

pub first_meta_is : command_of (understood old_schema first_meta) ≡ Insert 0 (Values (lit (Int (pos 1)) ∷ lit Null ∷ lit (Int (pos 0)) ∷ lit (Int (pos 0)) ∷ []) 4)
unfolding understood everything
first_meta_is = refl

pub insert_is : command_of (understood schema insert_text) ≡ Insert 1 (Values insert_terms 7)
unfolding understood everything
insert_is = refl

pub insert_plain : IsPlain (understood schema insert_text)
unfolding understood everything
insert_plain = (refl, refl)

pub first_meta_plain : IsPlain (understood old_schema first_meta)
unfolding understood everything
first_meta_plain = (refl, refl)

abbrev plain_query : ℕ → List Term → List Term → Query
plain_query table filter project = record {
  from = inner table end;
  filter = filter;
  group = None;
  project = project;
  distinct = false;
  collations = [];
  order = [];
  limit = lit (Int (negsuc 0));
  offset = lit (Int (pos 0));
}

abbrev pub update_query : Query
update_query = plain_query 0 [] (col 1 0 ∷ col 1 0 ∷ lit Null ∷ col 0 0 ∷ col 0 1 ∷ [])

pub update_is : command_of (understood schema update_all_text) ≡ Update 0 (record { lets = []; body = update_query })
unfolding understood everything
update_is = refl

pub update_plain : IsPlain (understood schema update_all_text)
unfolding understood everything
update_plain = (refl, refl)

abbrev pub delete_query : Query
delete_query = plain_query 1 (op2 (Compare Gt Binary) (col 1 0) (col 0 0) ∷ []) (col 1 0 ∷ [])

pub delete_is : command_of (understood schema delete_text) ≡ Delete 1 (record { lets = []; body = delete_query })
unfolding understood everything
delete_is = refl

pub delete_plain : IsPlain (understood schema delete_text)
unfolding understood everything
delete_plain = (refl, refl)

pub make_meta_plain : IsPlain (understood no_schema make_meta)
unfolding understood everything
make_meta_plain = (refl, refl)

pub make_log_plain : IsPlain (understood meta_schema make_log)
unfolding understood everything
make_log_plain = (refl, refl)

pub make_floor_plain : IsPlain (understood old_schema make_floor)
unfolding understood everything
make_floor_plain = (refl, refl)

abbrev pub floor_terms : List Term
floor_terms = lit (Int (pos 1)) ∷ lit Null ∷ lit (Int (negsuc 0)) ∷ []

pub first_floor_is : command_of (understood schema first_floor) ≡ Insert 2 (Values floor_terms 3)
unfolding understood everything
first_floor_is = refl

pub first_floor_plain : IsPlain (understood schema first_floor)
unfolding understood everything
first_floor_plain = (refl, refl)

abbrev pub floor_update : Query
floor_update = plain_query 2 [] (col 1 0 ∷ col 1 0 ∷ lit Null ∷ col 0 0 ∷ [])

pub floor_update_is : command_of (understood schema update_floor_text) ≡ Update 2 (record { lets = []; body = floor_update })
unfolding understood everything
floor_update_is = refl

pub floor_update_plain : IsPlain (understood schema update_floor_text)
unfolding understood everything
floor_update_plain = (refl, refl)

abbrev pub floor_query : Query
floor_query = plain_query 2 [] (col 1 0 ∷ col 1 2 ∷ [])

pub floor_is : (command_of (understood schema read_floor) ≡ Select (record { lets = []; body = floor_query }) (codes "id" ∷ codes "t" ∷ [])) × (reads_listing schema read_floor ≡ false)
unfolding understood everything
floor_is = (refl, refl)

pub floor_plain : IsPlain (understood schema read_floor)
unfolding understood everything
floor_plain = (refl, refl)

abbrev pub first_terms : List Term
first_terms = lit (Int (pos 1)) ∷ lit Null ∷ lit (Int (pos 0)) ∷ lit (Int (pos 0)) ∷ []

abbrev pub entry_query : Query
entry_query = plain_query 1 (op2 (Compare Eq Binary) (col 1 0) (col 0 0) ∷ []) (col 1 0 ∷ col 1 2 ∷ col 1 3 ∷ col 1 4 ∷ col 1 5 ∷ col 1 6 ∷ [])

pub entry_is : (command_of (understood schema read_entry) ≡ Select (record { lets = []; body = entry_query }) (codes "idx" ∷ codes "term" ∷ codes "stamp" ∷ codes "client" ∷ codes "number" ∷ codes "body" ∷ [])) × (reads_listing schema read_entry ≡ false)
unfolding understood everything
entry_is = (refl, refl)

pub entry_plain : IsPlain (understood schema read_entry)
unfolding understood everything
entry_plain = (refl, refl)

abbrev pub meta_query : Query
meta_query = plain_query 0 [] (col 1 0 ∷ col 1 2 ∷ col 1 3 ∷ [])

pub meta_is : (command_of (understood schema read_meta) ≡ Select (record { lets = []; body = meta_query }) (codes "id" ∷ codes "term" ∷ codes "vote" ∷ [])) × (reads_listing schema read_meta ≡ false)
unfolding understood everything
meta_is = (refl, refl)

pub meta_plain : IsPlain (understood schema read_meta)
unfolding understood everything
meta_plain = (refl, refl)

abbrev pub log_query : Query
log_query = record (plain_query 1 [] (col 1 0 ∷ col 1 2 ∷ col 1 3 ∷ col 1 4 ∷ col 1 5 ∷ col 1 6 ∷ [])) { order = (col 1 0, record { collation = Binary; descending = false }) ∷ [] }

pub log_is : (command_of (understood schema read_log) ≡ Select (record { lets = []; body = log_query }) (codes "idx" ∷ codes "term" ∷ codes "stamp" ∷ codes "client" ∷ codes "number" ∷ codes "body" ∷ [])) × (reads_listing schema read_log ≡ false)
unfolding understood everything
log_is = (refl, refl)

pub log_plain : IsPlain (understood schema read_log)
unfolding understood everything
log_plain = (refl, refl)

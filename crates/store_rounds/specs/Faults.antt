-- Which fault of the store a fault of a statement becomes.
use Rattle.rows_tables.specs.declared.fault.TableFault.{TableFault}
use Rattle.rows_tables.specs.declared.fault.TableFault.TheVariants as table
use Rattle.store_rounds.specs.declared.fault.StoreFault.{StoreFault}
use Rattle.store_rounds.specs.declared.fault.StoreFault.TheVariants as store

abbrev pub store_fault : TableFault → StoreFault
store_fault table.Storage = store.Storage
store_fault table.Memory = store.Memory
store_fault table.Damaged = store.Damaged

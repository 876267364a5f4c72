pub mod TableLo

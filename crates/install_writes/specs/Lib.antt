pub mod FewWrites

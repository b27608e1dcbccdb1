-- What contracts say for the code's sake: how names are kept while a text is read.
pub mod FoldedNames
pub mod NotedNames
